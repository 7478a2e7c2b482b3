use Rattle.std.proofs.Common.{arith, ◌≡◌, ◌∙◌, ℕ, zero, suc, ◌+◌, ◌-◌, ◌*◌, ◌%◌, ◌^◌, ◌<◌, ◌≤◌, of_z, w64, refl}
use Rattle.std.proofs.lemmas.Int.{of_z-to_z}
use Rattle.std.proofs.lemmas.Nat.{one_shl}
use Rattle.std.proofs.Math.Nat.{pow-suc, pow-le-pow_right}
use Rattle.flac_subframe.proofs.lemmas.format.Moved.{fits_when, when_fits}
use Rattle.flac_subframe.proofs.format.numbers.offset_binary.Goals as goal

twice : (n : ℕ) → 1 ≤ n → 2 ^ n ≡ 2 * 2 ^ (n - 1)
twice zero some = absurd (omega arith)
twice (suc n) some = let e : suc n - 1 ≡ n = omega arith in rw (e, pow-suc) (omega arith)

pub returns : goal.returns
returns c =
    let bits = c.args.bits in
    let half : ℕ = 2 ^ (bits - 1) in
    let low : bits - 1 < 64 = omega arith in
    let small : 2 ^ (bits - 1) ≤ 2 ^ 62 = pow-le-pow_right {n = 2} (omega arith) {i = bits - 1} {j = 62} (omega arith) in
    let moved = rw (one_shl (bits - 1) 64 low) at c.cast_unsigned.ensures in
    let is : c.cast_unsigned.result ≡ (of_z w64 c.args.number + 2 ^ (bits - 1)) % 2 ^ 64 = moved ∙ of_z-to_z w64 _ (omega arith) in
    let double = twice bits c.requires.positive in (
      λ t. fits_when c.args.number bits half c.cast_unsigned.result refl small c.ranges.number is (omega (arith, t, double)),
      λ f. omega (arith, when_fits c.args.number bits half c.cast_unsigned.result refl small c.ranges.number is f, double),
    )
