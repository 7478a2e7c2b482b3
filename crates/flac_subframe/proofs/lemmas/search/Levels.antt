-- Tables whose entries of one partition order stand one after another, and what a pass writes to them.
use Rattle.std.proofs.Common.{◌≡◌, ◌∙◌, ap, inl, inr, ◌⊎◌, ℕ, ◌+◌, ◌-◌, ◌*◌, ◌^◌, ◌≤◌, ◌<◌, arith, min, ℤ, List, ◌++◌, length, take, drop, replicate, get_or, All}
use Rattle.std.specs.List.{sum_by}
use Rattle.std.proofs.lemmas.List.{get_or_append_left, get_or-append_right, get_or-replicate, get_or-take, get_or-drop, length-append, length-take-le, length-drop}
use Rattle.flac_bits.specs.Rice.{IsResidual}
use Rattle.flac_subframe.specs.format.inner.Cost.{value_cost}
use Rattle.flac_subframe.specs.search.inner.Entry.{entry_number}
use Rattle.flac_subframe.specs.search.inner.Halves.{part}
use Rattle.flac_subframe.proofs.lemmas.search.Greater.{at_place}
use Rattle.flac_subframe.proofs.lemmas.search.Orders.{place_within}
use Rattle.flac_subframe.proofs.lemmas.search.Splits.{part_small}

-- what lies before the part
before_part : (f i : ℕ) (old rest : List ℕ) → f ≤ length old → i < f → get_or (take f old ++ rest) i 0 ≡ get_or old i 0
before_part f i old rest within h =
    get_or_append_left (take f old) rest 0 i (omega (arith, h, length-take-le f old within)) ∙ get_or-take f old i 0 h

-- what lies after it
after_part : (f k i : ℕ) (old new : List ℕ) → f + k ≤ length old → length new ≡ k → f + k ≤ i →
    get_or (take f old ++ (new ++ drop k (drop f old))) i 0 ≡ get_or old i 0
after_part f k i old new within long h =
    get_or-append_right (take f old) (new ++ drop k (drop f old)) f i 0 (length-take-le f old (omega (arith, within))) (omega (arith, h))
    ∙ get_or-append_right new (drop k (drop f old)) k (i - f) 0 long (omega (arith, h))
    ∙ get_or-drop k (drop f old) (i - f - k) 0
    ∙ get_or-drop f old (k + (i - f - k)) 0
    ∙ ap (λ (n : ℕ). get_or old n 0) (omega (arith, h))

-- the entries of one partition order, of which the table has f from f on
pub half_long : (f : ℕ) (old : List ℕ) → 2 * f ≤ length old → length (take (2 * f - f) (drop f old)) ≡ f
half_long f old room = length-take-le (2 * f - f) (drop f old) (omega (arith, room, length-drop f old)) ∙ omega arith

pub level_noted : (f k : ℕ) (sums old new : List ℕ) → 2 * f ≤ length old → length new ≡ length (take (2 * f - f) (drop f old)) →
    ((j : ℕ) → j < length (take (2 * f - f) (drop f old)) → get_or new j 0 ≡ min (get_or (take (2 * f - f) (drop f old)) j 0) (entry_number k (get_or sums j 0))) →
    (j : ℕ) → j < f → get_or (take f old ++ (new ++ drop (2 * f - f) (drop f old))) (f + j) 0 ≡ min (get_or old (f + j) 0) (entry_number k (get_or sums j 0))
level_noted f k sums old new room same noted j h =
    let all = half_long f old room in
    let was : get_or (take (2 * f - f) (drop f old)) j 0 ≡ get_or old (f + j) 0 = get_or-take (2 * f - f) (drop f old) j 0 (omega (arith, h)) ∙ get_or-drop f old j 0 in
    at_place f (f + j) j old new _ (omega (arith, room)) (omega arith) (omega (arith, h, all, same))
    ∙ noted j (omega (arith, h, all)) ∙ ap (λ (e : ℕ). min e (entry_number k (get_or sums j 0))) was

pub level_apart : (f : ℕ) (old new : List ℕ) → 2 * f ≤ length old → length new ≡ length (take (2 * f - f) (drop f old)) →
    (i : ℕ) → (i < f) ⊎ (2 * f ≤ i) → get_or (take f old ++ (new ++ drop (2 * f - f) (drop f old))) i 0 ≡ get_or old i 0
level_apart f old new room same i (inl h) = before_part f i old _ (omega (arith, room)) h
level_apart f old new room same i (inr h) =
    after_part f (2 * f - f) i old new (omega (arith, room)) (same ∙ half_long f old room ∙ omega arith) (omega (arith, h))

pub level_none : (f k : ℕ) (sums old : List ℕ) → 2 * f ≤ length old →
    ((j : ℕ) → j < length (take (2 * f - f) (drop f old)) → get_or (take (2 * f - f) (drop f old)) j 0 ≤ entry_number k (get_or sums j 0)) →
    (j : ℕ) → j < f → get_or old (f + j) 0 ≤ entry_number k (get_or sums j 0)
level_none f k sums old room none j h =
    let was : get_or (take (2 * f - f) (drop f old)) j 0 ≡ get_or old (f + j) 0 = get_or-take (2 * f - f) (drop f old) j 0 (omega (arith, h)) ∙ get_or-drop f old j 0 in
    rw was at (none j (omega (arith, h, half_long f old room)))

-- what the parts of one partition order cost is small
pub costs_small : (order k p : ℕ) (rs : List ℤ) (sums : List ℕ) → k < 31 → length rs + order ≤ 65535 → All IsResidual rs →
    ((j : ℕ) → j < 2 ^ p → get_or sums j 0 ≡ sum_by (value_cost k) (part order rs p j)) → (j : ℕ) → j < 2 ^ p → get_or sums j 0 < 2 ^ 50
costs_small order k p rs sums small few range costs j h = rw (costs j h) (part_small order k rs p j small (omega (arith, few)) range)

-- a list whose first places were written
pub front_long : (n : ℕ) (old new : List ℕ) → n ≤ length old → length new ≡ length (take n old) → length (new ++ drop n old) ≡ length old
front_long n old new room same = omega (arith, length-append new (drop n old), length-drop n old, length-take-le n old room, same, room)

pub front_filled : (n e p j high : ℕ) (old new : List ℕ) → p ≤ high → j < 2 ^ p → n ≡ 2 ^ high → 2 * n ≤ length old → length new ≡ length (take (2 * n) old) →
    new ≡ replicate (length (take (2 * n) old)) e → get_or (new ++ drop (2 * n) old) (2 ^ p + j) 0 ≡ e
front_filled n e p j high old new le b is room same filled =
    let long = length-take-le (2 * n) old room in
    let h : 2 ^ p + j < 2 * n = omega (arith, place_within p j high le b, is) in
    get_or_append_left new (drop (2 * n) old) 0 (2 ^ p + j) (omega (arith, h, long, same))
    ∙ rw filled (get_or-replicate (length (take (2 * n) old)) (2 ^ p + j) e 0 (omega (arith, h, long)))

pub front_copied : (n p j high : ℕ) (from old new : List ℕ) → p ≤ high → j < 2 ^ p → n ≡ 2 ^ high → 2 * n ≤ length old → length new ≡ length (take (2 * n) old) →
    new ≡ take (2 * n) from → get_or (new ++ drop (2 * n) old) (2 ^ p + j) 0 ≡ get_or from (2 ^ p + j) 0
front_copied n p j high from old new le b is room same copied =
    let long = length-take-le (2 * n) old room in
    let h : 2 ^ p + j < 2 * n = omega (arith, place_within p j high le b, is) in
    get_or_append_left new (drop (2 * n) old) 0 (2 ^ p + j) (omega (arith, h, long, same)) ∙ rw copied (get_or-take (2 * n) from (2 ^ p + j) 0 h)
