-- The bytes of a coded number.
use Rattle.std.proofs.Common.{◌≡◌, ℕ, zero, suc, ◌+◌, ◌-◌, ◌*◌, ◌/◌, ◌%◌, ◌^◌, ◌<◌, ◌≤◌, nat_eq, refl, sym, ap, ◌∙◌, arith}
use Rattle.std.proofs.Math.Nat.{pow-suc, mul_assoc}
use Rattle.flac_bits.specs.Layout.{refuse, choose, run, and_then, number_at}
use Rattle.flac_bits.specs.Number.{continued}
use Rattle.flac_bits.specs.State.{Cursor}
use Rattle.flac_bits.specs.declared.why.Why.TheVariants.{BadNumber}

-- one more byte is read
pub continued_more : (n i value : ℕ) (c : Cursor) → i < n → run (continued (n - i) value) c
    ≡ and_then (number_at 8 c) (λ byte d. run (choose (nat_eq (byte / 64) 2) (continued (n - (i + 1)) (64 * value + byte % 64)) (refuse BadNumber)) d)
unfolding continued
continued_more n i value c lt =
    let k : n - i ≡ suc (n - (i + 1)) = omega arith in
    rw k refl

pub six_more : (i count value : ℕ) → i < count → count ≤ 6 → value < 2 ^ 5 * 64 ^ i → 64 * value + 63 < 2 ^ 64
six_more zero count value a b h = omega arith
six_more (suc zero) count value a b h = omega arith
six_more (suc (suc zero)) count value a b h = omega arith
six_more (suc (suc (suc zero))) count value a b h = omega arith
six_more (suc (suc (suc (suc zero)))) count value a b h = omega arith
six_more (suc (suc (suc (suc (suc zero))))) count value a b h = omega arith
six_more (suc (suc (suc (suc (suc (suc i)))))) count value a b h = absurd (omega arith)

-- six bits more of a number
pub group_more : (h i value byte : ℕ) → value < h * 64 ^ i → 64 * value + byte % 64 < h * 64 ^ (i + 1)
group_more h i value byte lt =
    let e : i + 1 ≡ suc i = omega arith in
    let p : h * 64 ^ suc i ≡ h * 64 ^ i * 64 = ap (λ k. h * k) (pow-suc 64 i) ∙ sym (mul_assoc h (64 ^ i) 64) in
    let low : byte % 64 < 64 = omega arith in
    rw e (rw p (below (h * 64 ^ i) value (byte % 64) lt low))
  where
    below : (x value low : ℕ) → value < x → low < 64 → 64 * value + low < x * 64
    below x value low lt small = omega arith
