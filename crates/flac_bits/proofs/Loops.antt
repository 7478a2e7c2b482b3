-- One more turn of a loop that reads.
use Rattle.std.proofs.Common.{◌≡◌, ℕ, zero, suc, ◌+◌, ◌-◌, ◌*◌, ◌%◌, ◌^◌, ◌<◌, ◌≤◌, Bool, List, [], ◌∷◌, true, cond, Result, Ok, Err, Some, None, refl, sym, ap, ◌∙◌, arith}
use Rattle.flac_bits.specs.Bits.{bit_value}
use Rattle.std.proofs.Math.Nat.{pow-suc}
use Rattle.std.proofs.lemmas.Nat.{pow-add, shl_whole, mul-add-lt}
use Rattle.flac_bits.specs.State.{Mark, Cursor, State, step}
use Rattle.flac_bits.proofs.Readings.{at_}
use Rattle.flac_bits.specs.Layout.{next_bit, number_at, number_from, zeros_from, and_then, Reason}
use Rattle.flac_bits.specs.inner.Reading.{Goes}

pub number_more : (n i value : ℕ) (c : Cursor) → i < n → number_from (n - i) value c ≡ and_then (next_bit c) (λ b d. number_from (n - (i + 1)) (2 * value + bit_value b) d)
unfolding number_from
number_more n i value c lt =
    let k : n - i ≡ suc (n - (i + 1)) = omega arith in
    rw k refl

abbrev read : ℕ × Cursor → Result (ℕ × Cursor) Reason
read x = Ok x

-- what precedes a number counts by its place
after_number : (b value : ℕ) (left : List Bool) (m : Mark) → number_from b value (at_ left m) ≡ and_then (number_from b 0 (at_ left m)) (λ low e. read (value * 2 ^ b + low, e))
unfolding number_from next_bit
after_number zero value left m = ap (λ k. read (k, at_ left m)) (omega arith)
after_number (suc b) value [] m = refl
after_number (suc b) value (x ∷ left) m =
    after_number b (2 * value + bit_value x) left (step x m) ∙ twice (number_from b 0 (at_ left (step x m)))
    ∙ sym (ap (λ r. and_then r (λ low e. read (value * 2 ^ suc b + low, e))) (after_number b (2 * 0 + bit_value x) left (step x m)))
  where
    place : (low : ℕ) → (2 * value + bit_value x) * 2 ^ b + low ≡ value * 2 ^ suc b + ((2 * 0 + bit_value x) * 2 ^ b + low)
    place low = rw pow-suc (grind arith)

    twice : (r : Result (ℕ × Cursor) Reason) → and_then r (λ low e. read ((2 * value + bit_value x) * 2 ^ b + low, e)) ≡ and_then (and_then r (λ low e. read ((2 * 0 + bit_value x) * 2 ^ b + low, e))) (λ low e. read (value * 2 ^ suc b + low, e))
    twice (Ok y) = ap (λ k. read (k, y.1)) (place y.0)
    twice (Err e) = refl

halves : (a b value : ℕ) (left : List Bool) (m : Mark) → number_from (a + b) value (at_ left m) ≡ and_then (number_from a value (at_ left m)) (λ high d. and_then (number_from b 0 d) (λ low e. read (high * 2 ^ b + low, e)))
unfolding number_from next_bit
halves zero b value left m = let k : 0 + b ≡ b = omega arith in rw k (after_number b value left m)
halves (suc a) b value [] m = let k : suc a + b ≡ suc (a + b) = omega arith in rw k refl
halves (suc a) b value (x ∷ left) m = let k : suc a + b ≡ suc (a + b) = omega arith in rw k (halves a b (2 * value + bit_value x) left (step x m))

-- a number of more than 32 bits is read in two parts
pub number_halves : (n : ℕ) (c : Cursor) → 32 < n → number_at n c ≡ and_then (number_at (n - 32) c) (λ high d. and_then (number_at 32 d) (λ low e. Ok (high * 2 ^ 32 + low, e)))
unfolding number_at
number_halves n c lt = let k : n ≡ n - 32 + 32 = omega (arith, lt) in ap (λ j. number_from j 0 c) k ∙ halves (n - 32) 32 0 c.left c.mark

pub halves_joined : (n high low : ℕ) → n ≤ 64 → high < 2 ^ (n - 32) → high * 4294967296 % 18446744073709551616 + low ≡ high * 2 ^ 32 + low
halves_joined n high low few fits = ap (λ v. v + low) (shl_whole high (n - 32) 32 64 fits (omega (arith, few)))

pub halves_fit : (n high low : ℕ) → 32 < n → n ≤ 64 → high < 2 ^ (n - 32) → low < 2 ^ 32 → high * 4294967296 % 18446744073709551616 + low < 2 ^ n
halves_fit n high low more few fits lt =
    let p : 2 ^ (n - 32 + 32) ≡ 2 ^ (n - 32) * 2 ^ 32 = pow-add 2 (n - 32) 32 in
    let k : n - 32 + 32 ≡ n = omega (arith, more) in
    let below : high * 2 ^ 32 + low < 2 ^ 32 * 2 ^ (n - 32) = mul-add-lt high (2 ^ 32) low (2 ^ (n - 32)) fits lt in
    rw (halves_joined n high low few fits, ← k, p) (grind (arith, below))

pub zeros_more : (n i count : ℕ) (c : Cursor) → i < n → zeros_from (n - i) count c ≡ and_then (next_bit c) (λ b d. cond b (Ok (Some count, d)) (zeros_from (n - (i + 1)) (count + 1) d))
unfolding zeros_from
zeros_more n i count c lt =
    let k : n - i ≡ suc (n - (i + 1)) = omega arith in
    rw k refl

pub zeros_last : (n i count : ℕ) (c : Cursor) → n ≤ i → zeros_from (n - i) count c ≡ and_then (next_bit c) (λ b d. cond b (Ok (Some count, d)) (Ok (None, d)))
unfolding zeros_from
zeros_last n i count c le =
    let k : n - i ≡ 0 = omega arith in
    rw k refl

-- one more turn of a loop that did not fail
pub goes_on : {X Y : Type 0} (old now next : State) (part : Result (X × Cursor) Reason) (x : X) (more : X → Cursor → Result (Y × Cursor) Reason) (rest later whole : Result (Y × Cursor) Reason)
    → Goes old now rest whole → rest ≡ and_then part more → more x next.cursor ≡ later
    → (now.known ≡ true → next.known ≡ true) × (next.errors ≡ now.errors) × (next.raised ≡ now.raised) × (now.known ≡ true → next.after ≡ now.after) × (next.names ≡ now.names) → (now.known ≡ true → next.errors ≡ now.errors → part ≡ Ok (x, next.cursor))
    → Goes old next later whole
goes_on old now next part x more rest later whole goes begins then_is counts reads = record {
  known = λ known. counts.0 (goes.known known);
  errors = counts.1 ∙ goes.errors;
  raised = counts.2 ∙ goes.raised;
  after = λ known. counts.3 (goes.known known) ∙ goes.after known;
  names = counts.4 ∙ goes.names;
  reads = λ known. sym then_is ∙ sym (ap (λ r. and_then r more) (reads (goes.known known) counts.1)) ∙ sym begins ∙ goes.reads known;
}

-- a turn that read what it read by equations
pub goes_same : {Y : Type 0} (old now next : State) (rest later whole : Result Y Reason) → Goes old now rest whole
    → next.known ≡ now.known → next.errors ≡ now.errors → next.raised ≡ now.raised → next.after ≡ now.after → next.names ≡ now.names → rest ≡ later → Goes old next later whole
goes_same old now next rest later whole goes known errors raised after names same = record {
  known = λ k. known ∙ goes.known k;
  errors = errors ∙ goes.errors;
  raised = raised ∙ goes.raised;
  after = λ k. after ∙ goes.after k;
  names = names ∙ goes.names;
  reads = λ k. sym same ∙ goes.reads k;
}
