-- One more turn of the loops that read bit by bit, and a number that is read in two parts.
use mir.Val.{bool_byte}
use Rattle.std.proofs.Common.{Result, ◌≡◌, ℕ, suc, ◌+◌, ◌-◌, ◌*◌, ◌^◌, ◌<◌, ◌≤◌, Bool, true, false, Ok, Err, refl, sym, ap, ◌∙◌, arith, cond, Some, None, Option, ◌%◌}
use Rattle.std.proofs.Math.Nat.{pow-suc, pow-le-pow_right}
use Rattle.flac_bits.specs.Bits.{bit_value}
use Rattle.flac_bits.specs.State.{State, Cursor}
use Rattle.flac_bits.specs.Layout.{next_bit, number_at, number_from, zeros_from, and_then, Reason}
use Rattle.flac_bits.specs.inner.Reading.{Goes, SkippedZeros}
use Rattle.flac_bits.proofs.Counting.{Answered}
use Rattle.flac_bits.proofs.Loops.{number_more, number_halves, zeros_more, zeros_last, goes_on, goes_same}

bit_is : (b : Bool) → bit_value b ≡ bool_byte b
bit_is false = refl
bit_is true = refl

bit_small : (b : Bool) → bool_byte b ≤ 1
bit_small false = omega arith
bit_small true = omega arith

pub number_start : (n : ℕ) (old : State) → Goes old old (number_from (n - 0) 0 old.cursor) (number_from n 0 old.cursor)
number_start n old =
    let e : n - 0 ≡ n = omega arith in
    record {
      known = λ h. h;
      errors = refl;
      raised = refl;
      after = λ _. refl;
      names = refl;
      reads = λ _. ap (λ k. number_from k 0 old.cursor) e;
    }

pub number_turn : (n i value w : ℕ) (b : Bool) (old now next : State) → i < n → w ≡ bool_byte b
    → Goes old now (number_from (n - i) value now.cursor) (number_from n 0 old.cursor) → Answered now next
    → (now.known ≡ true → next.errors ≡ now.errors → next_bit now.cursor ≡ Ok (b, next.cursor))
    → Goes old next (number_from (n - (i + 1)) (2 * value + w) next.cursor) (number_from n 0 old.cursor)
number_turn n i value w b old now next lt is goes counts reads =
    goes_on old now next (next_bit now.cursor) b (λ x d. number_from (n - (i + 1)) (2 * value + bit_value x) d) _ _ _
    goes (number_more n i value now.cursor lt)
    (ap (λ k. number_from (n - (i + 1)) (2 * value + k) next.cursor) (bit_is b ∙ sym is)) counts reads

-- why such a number cannot be read: the next of its bits cannot
pub number_cut : (n i value : ℕ) (e : Reason) (old now : State) → i < n
    → Goes old now (number_from (n - i) value now.cursor) (number_from n 0 old.cursor) → old.known ≡ true
    → next_bit now.cursor ≡ Err e → number_from n 0 old.cursor ≡ Err e
number_cut n i value e old now lt goes known cut =
    sym (goes.reads known) ∙ number_more n i value now.cursor lt
    ∙ ap (λ r. and_then r (λ x d. number_from (n - (i + 1)) (2 * value + bit_value x) d)) cut

-- the number read so far, and its next bit
pub number_below : (i value w : ℕ) (b : Bool) → value < 2 ^ i → w ≡ bool_byte b → 2 * value + w < 2 ^ (i + 1)
number_below i value w b lt is =
    let e : i + 1 ≡ suc i = omega arith in
    let two : 2 ^ (i + 1) ≡ 2 ^ i * 2 = ap (λ k. 2 ^ k) e ∙ pow-suc 2 i in
    omega (arith, two, lt, is, bit_small b)

pub number_room : (n i value : ℕ) → i < n → n ≤ 64 → value < 2 ^ i → 2 * value + 1 < 18446744073709551616
number_room n i value lt few below =
    let most : 2 ^ (i + 1) ≤ 2 ^ 64 = pow-le-pow_right {n = 2} (omega arith) {i = i + 1} {j = 64} (omega (arith, lt, few)) in
    omega (arith, number_below i value 1 true below refl, most)

pub byte_small : (w : ℕ) (b : Bool) → w ≡ bool_byte b → w ≤ 1
byte_small w b is = omega (arith, is, bit_small b)

-- ---- zeros before a one

pub zeros_start : (limit : ℕ) (old : State) → Goes old old (zeros_from (limit - 0) 0 old.cursor) (zeros_from limit 0 old.cursor)
zeros_start limit old =
    let e : limit - 0 ≡ limit = omega arith in
    record {
      known = λ h. h;
      errors = refl;
      raised = refl;
      after = λ _. refl;
      names = refl;
      reads = λ _. ap (λ k. zeros_from k 0 old.cursor) e;
    }

abbrev after_zeros : ℕ → ℕ → Bool → Cursor → Result (Option ℕ × Cursor) Reason
after_zeros limit i b d = cond b (Ok (Some i, d)) (zeros_from (limit - (i + 1)) (i + 1) d)

pub zeros_turn : (limit i : ℕ) (b : Bool) (old now next : State) → i < limit → b ≡ false
    → Goes old now (zeros_from (limit - i) i now.cursor) (zeros_from limit 0 old.cursor) → Answered now next
    → (now.known ≡ true → next.errors ≡ now.errors → next_bit now.cursor ≡ Ok (b, next.cursor))
    → Goes old next (zeros_from (limit - (i + 1)) (i + 1) next.cursor) (zeros_from limit 0 old.cursor)
zeros_turn limit i b old now next lt is goes counts reads =
    goes_on old now next (next_bit now.cursor) b (after_zeros limit i) _ _ _
    goes (zeros_more limit i i now.cursor lt) (ap (λ x. after_zeros limit i x next.cursor) is) counts reads

pub zeros_past : (limit i q : ℕ) (old now next : State) → i + q ≤ limit → SkippedZeros q now next
    → Goes old now (zeros_from (limit - i) i now.cursor) (zeros_from limit 0 old.cursor)
    → Goes old next (zeros_from (limit - (i + q)) (i + q) next.cursor) (zeros_from limit 0 old.cursor)
zeros_past limit i q old now next le skipped goes =
    let same = skipped.2 in
    let e : limit - i - q ≡ limit - (i + q) = omega arith in
    goes_same old now next _ _ _ goes same.0 same.1 same.2 same.3 same.4
    (skipped.4 (limit - i) i (omega (arith, le)) ∙ ap (λ k. zeros_from k (i + q) next.cursor) e)

pub zeros_cut : (limit i : ℕ) (e : Reason) (old now : State) → i < limit
    → Goes old now (zeros_from (limit - i) i now.cursor) (zeros_from limit 0 old.cursor) → old.known ≡ true
    → next_bit now.cursor ≡ Err e → zeros_from limit 0 old.cursor ≡ Err e
zeros_cut limit i e old now lt goes known cut =
    sym (goes.reads known) ∙ zeros_more limit i i now.cursor lt ∙ ap (λ r. and_then r (after_zeros limit i)) cut

pub zeros_cut_last : (limit i : ℕ) (e : Reason) (old now : State) → limit ≤ i
    → Goes old now (zeros_from (limit - i) i now.cursor) (zeros_from limit 0 old.cursor) → old.known ≡ true
    → next_bit now.cursor ≡ Err e → zeros_from limit 0 old.cursor ≡ Err e
zeros_cut_last limit i e old now le goes known cut =
    sym (goes.reads known) ∙ zeros_last limit i i now.cursor le
    ∙ ap (λ r. and_then r (λ b d. cond b (Ok (Some i, d)) (Ok (None, d)))) cut

-- ---- a number of more than 32 bits

abbrev both_parts : ℕ → ℕ → Cursor → Result (ℕ × Cursor) Reason
both_parts high low e = Ok (high * 2 ^ 32 + low, e)

abbrev after_high : ℕ → Cursor → Result (ℕ × Cursor) Reason
after_high high d = and_then (number_at 32 d) (both_parts high)

pub high_cut : (n : ℕ) (why : Reason) (c : Cursor) → 32 < n → number_at (n - 32) c ≡ Err why → number_at n c ≡ Err why
high_cut n why c lt cut = number_halves n c lt ∙ ap (λ r. and_then r after_high) cut

pub low_cut : (n high : ℕ) (why : Reason) (c d : Cursor) → 32 < n → number_at (n - 32) c ≡ Ok (high, d)
    → number_at 32 d ≡ Err why → number_at n c ≡ Err why
low_cut n high why c d lt read cut =
    number_halves n c lt ∙ ap (λ r. and_then r after_high) read
    ∙ ap (λ r. and_then r (both_parts high)) cut

pub halves_room : (n high low : ℕ) → n ≤ 64 → high < 2 ^ (n - 32) → low < 4294967296
    → high * 4294967296 % 18446744073709551616 + low < 18446744073709551616
halves_room n high low few fits lt =
    let most : 2 ^ (n - 32) ≤ 2 ^ 32 = pow-le-pow_right {n = 2} (omega arith) {i = n - 32} {j = 32} (omega (arith, few)) in
    omega (arith, most, fits, lt)
