-- Reading a layout returns what the layout means.
use Rattle.std.proofs.Common.{◌≡◌, ℕ, zero, suc, ◌+◌, ◌-◌, ◌*◌, ◌%◌, ◌^◌, ◌<◌, ◌≤◌, Bool, true, false, nat_eq, List, [], ◌∷◌, ◌++◌, length, replicate, Option, Some, None, Result, Ok, Err, refl, sym, ap, ◌∙◌, arith, inl, inr, ◌⊎◌}
use Rattle.std.specs.Int.{bit_at}
use Rattle.std.proofs.lemmas.Nat.Bits.{bit_at_cat_low, bit_at_cat_high, bit_at-lt}
use Rattle.std.proofs.Math.Nat.{pow-suc, mod-eq_of_lt}
use Rattle.std.proofs.Math.Arith.{mod-mul}
use Rattle.flac_bits.specs.Bits.{unsigned, bit_value}
use Rattle.flac_bits.specs.State.{Mark, Cursor, step, past}
use Rattle.flac_bits.specs.Layout.{Reason, because, next_bit, number_from, number_at, zeros_from, zeros_at}
use Rattle.flac_bits.specs.Meaning.{unary_bits, zeros_bits}

-- a field of n bits, and what follows it
abbrev pub IsField : ℕ → List Bool → ℕ → List Bool → Type 0
IsField n text v rest = (v < 2 ^ n) × (text ≡ unsigned n v ++ rest)

abbrev pub IsZeros : ℕ → List Bool → Option ℕ → List Bool → Type 0
IsZeros limit text None rest = text ≡ replicate (suc limit) false ++ rest
IsZeros limit text (Some q) rest = (q ≤ limit) × (text ≡ unary_bits q ++ rest)

abbrev pub at_ : List Bool → Mark → Cursor
at_ left m = record { left = left; mark = m }

-- ---- a field

pub unsigned_low : (n a k v : ℕ) → n ≤ k → unsigned n (a * 2 ^ k + v) ≡ unsigned n v
unsigned_low zero a k v le = refl
unsigned_low (suc n) a k v le =
    let head : bit_at (a * 2 ^ k + v) n ≡ bit_at v n = bit_at_cat_low a k v n (omega arith) in
    let low : unsigned n (a * 2 ^ k + v) ≡ unsigned n v = unsigned_low n a k v (omega arith) in
    rw (head, low) refl

top_bit : (b : Bool) (n v : ℕ) → v < 2 ^ n → nat_eq (bit_at (bit_value b * 2 ^ n + v) n) 1 ≡ b
top_bit true n v lt =
    let high : bit_at (1 * 2 ^ n + v) n ≡ bit_at 1 (n - n) = bit_at_cat_high 1 n v n lt (omega arith) in
    let z : n - n ≡ 0 = omega arith in
    rw (high, z) refl
top_bit false n v lt =
    let high : bit_at (0 * 2 ^ n + v) n ≡ bit_at 0 (n - n) = bit_at_cat_high 0 n v n lt (omega arith) in
    let z : n - n ≡ 0 = omega arith in
    rw (high, z) refl

unsigned_top : (b : Bool) (n v : ℕ) → v < 2 ^ n → unsigned (suc n) (bit_value b * 2 ^ n + v) ≡ b ∷ unsigned n v
unsigned_top b n v lt =
    let top = top_bit b n v lt in
    let low = unsigned_low n (bit_value b) n v (omega arith) in
    rw (top, low) refl

pow_pos : (n : ℕ) → 0 < 2 ^ n
pow_pos zero = omega arith
pow_pos (suc n) = rw pow-suc (omega (arith, pow_pos n))

bit_small : (b : Bool) → bit_value b ≤ 1
bit_small true = omega arith
bit_small false = omega arith

top_fits : (b n v : ℕ) → b ≤ 1 → v < 2 ^ n → b * 2 ^ n + v < 2 ^ suc n
top_fits zero n v h lt = rw pow-suc (omega arith)
top_fits (suc zero) n v h lt = rw pow-suc (omega arith)
top_fits (suc (suc b)) n v h lt = absurd (omega arith)

top_value : (value b n v : ℕ) → b ≤ 1 → (2 * value + b) * 2 ^ n + v ≡ value * 2 ^ suc n + (b * 2 ^ n + v)
top_value value zero n v h = rw pow-suc (grind arith)
top_value value (suc zero) n v h = rw pow-suc (grind arith)
top_value value (suc (suc b)) n v h = absurd (omega arith)

abbrev read : ℕ × Cursor → Result (ℕ × Cursor) Reason
read x = Ok x

-- what is read of n bits is their number
number_takes : (n value : ℕ) (left : List Bool) (m : Mark) → ((v : ℕ) × (rest : List Bool) × IsField n left v rest × (number_from n value (at_ left m) ≡ Ok (value * 2 ^ n + v, at_ rest (past (unsigned n v) m)))) ⊎ ((length left < n) × (number_from n value (at_ left m) ≡ Err (because m.short)))
unfolding number_from next_bit
number_takes zero value left m = inl (0, left, (omega arith, refl), ap (λ v. read (v, at_ left m)) (omega arith))
number_takes (suc n) value [] m = inr (omega arith, refl)
number_takes (suc n) value (b ∷ left) m = elim (number_takes n (2 * value + bit_value b) left (step b m)) [
  | inl (v, rest, good, is) ↦
      let w = bit_value b * 2 ^ n + v in
      let same : unsigned (suc n) w ≡ b ∷ unsigned n v = unsigned_top b n v good.0 in
      inl (
        w,
        rest,
        (top_fits (bit_value b) n v (bit_small b) good.0, ap (λ bs. b ∷ bs) good.1 ∙ ap (λ bs. bs ++ rest) (sym same)),
        is ∙ ap (λ k. read (k, at_ rest (past (unsigned n v) (step b m)))) (top_value value (bit_value b) n v (bit_small b))
            ∙ ap (λ bs. read (value * 2 ^ suc n + w, at_ rest (past bs m))) (sym same),
      )
  | inr short ↦ inr (omega (arith, short.0), short.1)
]

bit_is : (d : ℕ) → d < 2 → bit_value (nat_eq d 1) ≡ d
bit_is zero h = refl
bit_is (suc zero) h = refl
bit_is (suc (suc d)) h = absurd (omega arith)

low_bits : (n v : ℕ) → bit_value (nat_eq (bit_at v n) 1) * 2 ^ n + v % 2 ^ n ≡ v % 2 ^ suc n
low_bits n v =
    let d : bit_value (nat_eq (bit_at v n) 1) ≡ bit_at v n = bit_is (bit_at v n) (bit_at-lt v n) in
    let p : 2 ^ suc n ≡ 2 * 2 ^ n = rw pow-suc (omega arith) in
    rw (d, p) (sym (mod-mul v (omega arith) (pow_pos n)))

-- the bits of a number are read back
number_again_mod : (n value v : ℕ) (rest : List Bool) (m : Mark) → number_from n value (at_ (unsigned n v ++ rest) m) ≡ Ok (value * 2 ^ n + v % 2 ^ n, at_ rest (past (unsigned n v) m))
unfolding number_from next_bit
number_again_mod zero value v rest m = ap (λ k. read (k, at_ rest m)) (omega arith)
number_again_mod (suc n) value v rest m =
    let b = nat_eq (bit_at v n) 1 in
    let sum : (2 * value + bit_value b) * 2 ^ n + v % 2 ^ n ≡ value * 2 ^ suc n + v % 2 ^ suc n = top_value value (bit_value b) n (v % 2 ^ n) (bit_small b) ∙ ap (λ k. value * 2 ^ suc n + k) (low_bits n v) in
    number_again_mod n (2 * value + bit_value b) v rest (step b m) ∙ ap (λ k. read (k, at_ rest (past (unsigned n v) (step b m)))) sum

pub number_again : (n v : ℕ) (rest : List Bool) (m : Mark) → v < 2 ^ n → number_at n (at_ (unsigned n v ++ rest) m) ≡ Ok (v, at_ rest (past (unsigned n v) m))
unfolding number_at
number_again n v rest m lt = number_again_mod n 0 v rest m ∙ ap (λ k. read (k, at_ rest (past (unsigned n v) m))) (omega (arith, mod-eq_of_lt lt))

-- ---- zeros

pub past-append : (a b : List Bool) (m : Mark) → past (a ++ b) m ≡ past b (past a m)
past-append [] b m = refl
past-append (x ∷ a) b m = past-append a b (step x m)

abbrev counted : ℕ → Option ℕ → Option ℕ
counted n None = None
counted n (Some q) = Some (n + q)

abbrev zeros_read : Option ℕ × Cursor → Result (Option ℕ × Cursor) Reason
zeros_read x = Ok x

one_more_zero : (room : ℕ) (left : List Bool) (o : Option ℕ) (rest : List Bool) → IsZeros room left o rest → (p : Option ℕ) × IsZeros (suc room) (false ∷ left) p rest
    × ((count : ℕ) → counted (count + 1) o ≡ counted count p) × ((m : Mark) → past (zeros_bits room o) (step false m) ≡ past (zeros_bits (suc room) p) m)
one_more_zero room left None rest e = (None, ap (λ bs. false ∷ bs) e, λ count. refl, λ m. refl)
one_more_zero room left (Some q) rest e = (Some (suc q), (omega (arith, e.0), ap (λ bs. false ∷ bs) e.1), λ count. ap (λ k. Some k) (omega arith), λ m. refl)

zeros_take : (room count : ℕ) (left : List Bool) (m : Mark) → ((o : Option ℕ) × (rest : List Bool) × IsZeros room left o rest × (zeros_from room count (at_ left m) ≡ Ok (counted count o, at_ rest (past (zeros_bits room o) m))))
    ⊎ (((q : ℕ) × (q ≤ room) × (left ≡ replicate q false)) × (zeros_from room count (at_ left m) ≡ Err (because m.short)))
unfolding zeros_from next_bit
zeros_take zero count [] m = inr ((0, omega arith, refl), refl)
zeros_take zero count (true ∷ left) m = inl (Some 0, left, (omega arith, refl), ap (λ k. zeros_read (Some k, at_ left (step true m))) (omega arith))
zeros_take zero count (false ∷ left) m = inl (None, left, refl, refl)
zeros_take (suc room) count [] m = inr ((0, omega arith, refl), refl)
zeros_take (suc room) count (true ∷ left) m = inl (Some 0, left, (omega arith, refl), ap (λ k. zeros_read (Some k, at_ left (step true m))) (omega arith))
zeros_take (suc room) count (false ∷ left) m = elim (zeros_take room (count + 1) left (step false m)) [
  | inl (o, rest, good, is) ↦
      let more = one_more_zero room left o rest good in
      inl (more.0, rest, more.1, is ∙ ap (λ p. zeros_read (p, at_ rest (past (zeros_bits room o) (step false m)))) (more.2 count) ∙ ap (λ k. zeros_read (counted count more.0, at_ rest k)) (more.3 m))
  | inr (short, is) ↦ inr ((suc short.0, omega (arith, short.1), ap (λ bs. false ∷ bs) short.2), is)
]

zeros_again_from : (room count : ℕ) (o : Option ℕ) (left rest : List Bool) (m : Mark) → IsZeros room left o rest → zeros_from room count (at_ left m) ≡ Ok (counted count o, at_ rest (past (zeros_bits room o) m))
unfolding zeros_from next_bit
zeros_again_from zero count None left rest m e = rw e refl
zeros_again_from zero count (Some zero) left rest m e = rw e.1 (ap (λ k. zeros_read (Some k, at_ rest (step true m))) (omega arith))
zeros_again_from zero count (Some (suc q)) left rest m e = absurd (omega (arith, e.0))
zeros_again_from (suc room) count None left rest m e = rw e (zeros_again_from room (count + 1) None _ rest (step false m) refl)
zeros_again_from (suc room) count (Some zero) left rest m e = rw e.1 (ap (λ k. zeros_read (Some k, at_ rest (step true m))) (omega arith))
zeros_again_from (suc room) count (Some (suc q)) left rest m e = rw e.1 (zeros_again_from room (count + 1) (Some q) _ rest (step false m) (omega (arith, e.0), refl) ∙ ap (λ k. zeros_read (Some k, at_ rest (past (unary_bits q) (step false m)))) (omega arith))

counted_zero : (o : Option ℕ) → counted 0 o ≡ o
counted_zero None = refl
counted_zero (Some q) = ap (λ k. Some k) (omega arith)

pub number_reads : (n : ℕ) (left : List Bool) (m : Mark) → ((v : ℕ) × (rest : List Bool) × IsField n left v rest × (number_at n (at_ left m) ≡ Ok (v, at_ rest (past (unsigned n v) m)))) ⊎ ((length left < n) × (number_at n (at_ left m) ≡ Err (because m.short)))
unfolding number_at
number_reads n left m = elim (number_takes n 0 left m) [
  | inl (v, rest, good, is) ↦ inl (v, rest, good, is ∙ ap (λ k. read (k, at_ rest (past (unsigned n v) m))) (omega arith))
  | inr short ↦ inr short
]

pub zeros_read_all : (limit : ℕ) (left : List Bool) (m : Mark) → ((o : Option ℕ) × (rest : List Bool) × IsZeros limit left o rest × (zeros_at limit (at_ left m) ≡ Ok (o, at_ rest (past (zeros_bits limit o) m))))
    ⊎ (((q : ℕ) × (q ≤ limit) × (left ≡ replicate q false)) × (zeros_at limit (at_ left m) ≡ Err (because m.short)))
unfolding zeros_at
zeros_read_all limit left m = elim (zeros_take limit 0 left m) [
  | inl (o, rest, good, is) ↦ inl (o, rest, good, is ∙ ap (λ p. zeros_read (p, at_ rest (past (zeros_bits limit o) m))) (counted_zero o))
  | inr short ↦ inr short
]

pub zeros_again : (limit : ℕ) (o : Option ℕ) (left rest : List Bool) (m : Mark) → IsZeros limit left o rest → zeros_at limit (at_ left m) ≡ Ok (o, at_ rest (past (zeros_bits limit o) m))
unfolding zeros_at
zeros_again limit o left rest m good = zeros_again_from limit 0 o left rest m good ∙ ap (λ p. zeros_read (p, at_ rest (past (zeros_bits limit o) m))) (counted_zero o)
