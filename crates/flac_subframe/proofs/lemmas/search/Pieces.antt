-- What a predictor leaves of a piece of the samples is a piece of what it leaves of all.
use Rattle.std.proofs.Common.{◌≡◌, ◌∙◌, refl, sym, ap, inl, inr, ℕ, suc, ◌+◌, ◌-◌, ◌*◌, ◌/◌, ◌^◌, ◌≤◌, ◌<◌, ◌↔◌, arith, ℤ, pos, List, length, take, drop, map, get_or, All}
use Rattle.std.specs.List.{sum_by}
use Rattle.std.specs.Prelude.{slice_set}
use Rattle.std.proofs.Math.Nat.{mul-div_cancel, mul-mod_left}
use Rattle.std.proofs.lemmas.Bool.{cases_lt}
use Rattle.std.proofs.lemmas.Nat.{pow_pos}
use Rattle.std.proofs.lemmas.List.{get_or-drop, get_or-set_other, get_or-set_same, get_or-take, length-drop, length-map, length-take-le, same_lists, take_all}
use Rattle.std.proofs.lemmas.List.FromFn.{get_or-map-range_with_len, length-map-range_with_len}
use Rattle.flac_subframe.specs.format.Bodies.{difference, differences}
use Rattle.flac_subframe.specs.format.Numbers.{sample_at}
use Rattle.flac_subframe.specs.format.Prediction.{fixed_coefficients, weighted}
use Rattle.flac_bits.specs.Rice.{folded}
use Rattle.flac_subframe.specs.format.inner.Cost.{folded_cost, value_cost}
use Rattle.flac_subframe.specs.declared.search.fixed_leaves.Leaf.{Leaf}
use Rattle.flac_subframe.specs.search.inner.Halves.{Halves, IsWidth, part, segment, start}
use Rattle.flac_subframe.specs.search.inner.Leaves.{CostsAtLeastBeside, IsLeaf}
use Rattle.flac_subframe.proofs.lemmas.format.Differences.{length-fixed}
use Rattle.flac_subframe.proofs.lemmas.format.Nearest.{weighted_nearest}
use Rattle.flac_subframe.proofs.lemmas.search.Folds.{costs_folded, segment_width}
use Rattle.flac_subframe.proofs.lemmas.search.LowerBounds.{BoundTo, bound_start, bound_more, bound_end, bound_beside}
use Rattle.flac_subframe.proofs.lemmas.search.Turns.{all_rest, first_long, one_left, next_long, next_rest}

piece_sample : (s : List ℤ) (at m i : ℕ) → i < m → sample_at (take m (drop at s)) i ≡ sample_at s (at + i)
piece_sample s at m i h = get_or-take m (drop at s) i (pos 0) h ∙ get_or-drop at s i (pos 0)

module _ (cs : List ℤ) (shift : ℕ) (s : List ℤ) (at n : ℕ) where
  piece_difference : (j : ℕ) → j < n → difference cs shift (take (length cs + n) (drop at s)) j ≡ difference cs shift s (at + j)
  unfolding difference
  piece_difference j h =
      let t : List ℤ = take (length cs + n) (drop at s) in
      let e : at + (length cs + j) ≡ length cs + (at + j) = omega arith in
      let here : sample_at t (length cs + j) ≡ sample_at s (length cs + (at + j)) = rw e at (piece_sample s at (length cs + n) (length cs + j) (omega arith)) in
      let before : weighted cs t (length cs + j) ≡ weighted cs s (length cs + (at + j)) = weighted_nearest cs t s (length cs + j) (length cs + (at + j)) (omega arith) (omega arith) (λ k b.
      let f : at + (length cs + j - 1 - k) ≡ length cs + (at + j) - 1 - k = omega arith in
      rw f at (piece_sample s at (length cs + n) (length cs + j - 1 - k) (omega arith))) in
      rw (here, before) refl

  pub differences_of_piece : at + (length cs + n) ≤ length s → differences cs shift (take (length cs + n) (drop at s)) ≡ take n (drop at (differences cs shift s))
  differences_of_piece within =
      let t : List ℤ = take (length cs + n) (drop at s) in
      let all : ℕ = length s - length cs in
      let long : length t ≡ length cs + n = length-take-le (length cs + n) (drop at s) (omega (arith, length-drop at s)) in
      let count : length t - length cs ≡ n = omega arith in
      let left : length (differences cs shift t) ≡ n = length-map-range_with_len (difference cs shift t) 0 (length t - length cs) ∙ count in
      let whole : length (differences cs shift s) ≡ all = length-map-range_with_len (difference cs shift s) 0 (length s - length cs) in
      let rest : length (drop at (differences cs shift s)) ≡ all - at = length-drop at (differences cs shift s) ∙ ap (λ (m : ℕ). m - at) whole in
      let right : length (take n (drop at (differences cs shift s))) ≡ n = length-take-le n (drop at (differences cs shift s)) (omega arith) in
      same_lists (differences cs shift t) (take n (drop at (differences cs shift s))) (left ∙ sym right) (λ k d h.
      let b : k < n = omega arith in
      get_or-map-range_with_len (difference cs shift t) 0 (length t - length cs) k k d (omega arith) (omega arith)
      ∙ piece_difference k b
      ∙ sym (get_or-map-range_with_len (difference cs shift s) 0 (length s - length cs) (at + k) (at + k) d (omega arith) (omega arith))
      ∙ sym (get_or-drop at (differences cs shift s) k d)
      ∙ sym (get_or-take n (drop at (differences cs shift s)) k d b))

-- the same of a fixed predictor
pub fixed_of_piece : (order : ℕ) (s : List ℤ) (at n : ℕ) → order ≤ 4 → at + (order + n) ≤ length s →
    differences (fixed_coefficients order) 0 (take (order + n) (drop at s)) ≡ take n (drop at (differences (fixed_coefficients order) 0 s))
fixed_of_piece order s at n few within =
    let e : length (fixed_coefficients order) ≡ order = length-fixed order few in
    sym (ap (λ (m : ℕ). differences (fixed_coefficients order) 0 (take (m + n) (drop at s))) e) ∙ differences_of_piece (fixed_coefficients order) 0 s at n (omega (arith, e))

pub length-left : (order : ℕ) (s : List ℤ) → order ≤ 4 → length (differences (fixed_coefficients order) 0 s) ≡ length s - order
length-left order s few =
    length-map-range_with_len (difference (fixed_coefficients order) 0 s) 0 (length s - length (fixed_coefficients order)) ∙ ap (λ (m : ℕ). length s - m) (length-fixed order few)

-- the first partition of sixteen, and a later one
pub first_sixteen : (order : ℕ) (s : List ℤ) (index : ℕ) → order ≤ 4 → 16 ≤ length s → index ≡ 0 →
    differences (fixed_coefficients order) 0 (take 16 s) ≡ segment (index * 16 - order) ((index + 1) * 16 - order) (differences (fixed_coefficients order) 0 s)
first_sixteen order s index few long is =
    let e : order + (16 - order) ≡ 16 = omega arith in
    let a : index * 16 - order ≡ 0 = omega arith in
    let b : (index + 1) * 16 - order ≡ 16 - order = omega arith in
    let c : 16 - order - 0 ≡ 16 - order = omega arith in
    let is : differences (fixed_coefficients order) 0 (take 16 (drop 0 s)) ≡ take (16 - order) (drop 0 (differences (fixed_coefficients order) 0 s)) = rw e at (fixed_of_piece order s 0 (16 - order) few (omega arith)) in
    rw (a, b, c) is

pub next_sixteen : (order : ℕ) (s : List ℤ) (index : ℕ) → order ≤ 4 → 1 ≤ index → index * 16 + 16 ≤ length s →
    differences (fixed_coefficients order) 0 (take (order + 16) (drop (index * 16 - order) s)) ≡ segment (index * 16 - order) ((index + 1) * 16 - order) (differences (fixed_coefficients order) 0 s)
next_sixteen order s index few some within =
    let a : (index + 1) * 16 - order - (index * 16 - order) ≡ 16 = omega arith in
    rw a (fixed_of_piece order s (index * 16 - order) 16 few (omega arith))

-- how long a partition is if the block has sixteen for each
pub sixteen_each : (p n : ℕ) → n ≡ 16 * 2 ^ p → n / 2 ^ p ≡ 16
sixteen_each p n is = rw is (mul-div_cancel 16 (pow_pos p))

pub part_of_sixteen : (order p j : ℕ) (rs : List ℤ) → length rs + order ≡ 16 * 2 ^ p → part order rs p j ≡ segment (j * 16 - order) ((j + 1) * 16 - order) rs
unfolding part
part_of_sixteen order p j rs is = rw (sixteen_each p (length rs + order) is) refl

pub halves_of_sixteen : (order p : ℕ) (rs : List ℤ) → order ≤ 4 → length rs + order ≡ 16 * 2 ^ p → Halves order rs p
halves_of_sixteen order p rs few is = record {
  even = rw is (mul-mod_left 16 (2 ^ p));
  room = rw (sixteen_each p (length rs + order) is) (omega arith);
}

pub halves_as_long : (order p : ℕ) (xs ys : List ℤ) → length xs ≡ length ys → Halves order xs p → Halves order ys p
halves_as_long order p xs ys e so = record { even = rw (← e) so.even; room = rw (← e) so.room }

-- ---- values by their folded numbers

pub whole_cost : (k : ℕ) (rs : List ℤ) (ns : List ℕ) → ns ≡ map folded rs → sum_by (folded_cost k) ns ≡ sum_by (value_cost k) rs
whole_cost k rs ns is = ap (λ (l : List ℕ). sum_by (folded_cost k) l) is ∙ costs_folded k rs

pub whole_width : (w : ℕ) (rs : List ℤ) (ns : List ℕ) → ns ≡ map folded rs → ((n : ℕ) → (All (λ k. k < 2 ^ n) ns ↔ (w ≤ n))) → IsWidth rs w
whole_width w rs ns is h =
    let long : length ns ≡ length rs = ap (λ (l : List ℕ). length l) is ∙ length-map rs folded in
    let all : take (length rs - 0) ns ≡ ns = take_all (length rs - 0) ns (omega arith) in
    let whole : take (length rs - 0) rs ≡ rs = take_all (length rs - 0) rs (omega arith) in
    let so : IsWidth (take (length rs - 0) rs) w = segment_width w 0 (length rs) rs ns is (rw all h) in
    rw whole at so

-- ---- the leaves of a residual, one after another

-- what is known after the first ones
pub record LeavesTo (order p : ℕ) (rs : List ℤ) (count i bound : ℕ) (widths sums : List ℕ) : Type 0 where
  pub bounds : (w : ℕ) → BoundTo w ((length rs + order) / 2 ^ p - order) ((length rs + order) / 2 ^ p) count rs bound (start order (length rs + order) p (i + 1) - start order (length rs + order) p i) (count - i) (drop (start order (length rs + order) p i) rs)
  pub low : bound ≤ 2 ^ 21 * i
  pub done : (j : ℕ) → j < i → IsWidth (part order rs p j) (get_or widths j 0)
  pub small : (j : ℕ) → j < i → get_or widths j 0 ≤ 32
  pub costs : (j : ℕ) → j < i → get_or sums j 0 ≡ sum_by (value_cost 0) (part order rs p j)

none_below : (j : ℕ) → j < 0 → ⊥
none_below j h = omega arith

left_at_first : (n : ℕ) → n ≡ n - 0
left_at_first n = omega arith

from_none : (n : ℕ) → 0 ≤ n
from_none n = omega arith

apart : (j i : ℕ) → j < i → j ≡ i → ⊥
apart j i less e = omega arith

last_one : (j i : ℕ) → j < i + 1 → i ≤ j → j ≡ i
last_one j i less more = omega arith

one_more : (i bound b : ℕ) → bound ≤ 2 ^ 21 * i → b ≤ 2 ^ 21 → bound + b ≤ 2 ^ 21 * (i + 1)
one_more i bound b so small = omega arith

module _ (order p : ℕ) (rs : List ℤ) (count : ℕ) where
  pub no_leaves : (widths sums : List ℕ) → LeavesTo order p rs count 0 0 widths sums
  no_leaves widths sums =
      let n : ℕ = length rs + order in
      record {
        bounds = λ w. rw (← left_at_first count, ← first_long order n p, ← all_rest order n p rs) (bound_start w (n / 2 ^ p - order) (n / 2 ^ p) count rs);
        low = from_none 0;
        done = λ j h. absurd (none_below j h);
        small = λ j h. absurd (none_below j h);
        costs = λ j h. absurd (none_below j h);
      }

  module _ (i bound : ℕ) (widths sums : List ℕ) (few : order ≤ 4) (sixteens : length rs + order ≡ 16 * 2 ^ p) (less : i < count) (in_widths : i < length widths) (in_sums : i < length sums)
      (so : LeavesTo order p rs count i bound widths sums) (leaf : Leaf) (is : IsLeaf (segment (i * 16 - order) ((i + 1) * 16 - order) rs) leaf) where
    here : IsLeaf (part order rs p i) leaf
    here = rw (part_of_sixteen order p i rs sixteens) is

    next_bound : (w : ℕ) → BoundTo w ((length rs + order) / 2 ^ p - order) ((length rs + order) / 2 ^ p) count rs (bound + leaf.bound)
        (start order (length rs + order) p (i + 1 + 1) - start order (length rs + order) p (i + 1)) (count - (i + 1)) (drop (start order (length rs + order) p (i + 1)) rs)
    unfolding part
    next_bound w =
        let n : ℕ = length rs + order in
        let from : ℕ = start order n p i in
        let long : ℕ = start order n p (i + 1) - from in
        let halves = halves_of_sixteen order p rs few sixteens in
        let was : BoundTo w (n / 2 ^ p - order) (n / 2 ^ p) count rs bound long (suc (count - (i + 1))) (drop from rs) = rw (one_left count i less) at (so.bounds w) in
        let now = bound_more w (n / 2 ^ p - order) (n / 2 ^ p) count rs bound long (count - (i + 1)) (drop from rs) leaf.bound here.rice here.escape was in
        rw (← next_long order n p i halves.room, ← next_rest order n p i long rs (drop from rs) (drop long (drop from rs)) refl refl refl) now

    pub leaves_more : LeavesTo order p rs count (i + 1) (bound + leaf.bound) (slice_set widths i leaf.width) (slice_set sums i leaf.bits)
    leaves_more = record {
      bounds = next_bound;
      low = one_more i bound leaf.bound so.low here.small;
      done = λ j h. elim (cases_lt j i) [
        | inl d ↦ rw (get_or-set_other widths i j leaf.width 0 (apart j i d)) (so.done j d)
        | inr d ↦ let e = last_one j i h d in rw (e, get_or-set_same widths i leaf.width 0 in_widths) here.width
      ];
      small = λ j h. elim (cases_lt j i) [
        | inl d ↦ rw (get_or-set_other widths i j leaf.width 0 (apart j i d)) (so.small j d)
        | inr d ↦ let e = last_one j i h d in rw (e, get_or-set_same widths i leaf.width 0 in_widths) here.narrow
      ];
      costs = λ j h. elim (cases_lt j i) [
        | inl d ↦ get_or-set_other sums i j leaf.bits 0 (apart j i d) ∙ so.costs j d
        | inr d ↦ let e = last_one j i h d in rw e (get_or-set_same sums i leaf.bits 0 in_sums ∙ here.bits)
      ];
    }

  pub leaves_bound : (i bound : ℕ) (widths sums : List ℕ) → count ≡ 2 ^ p → Halves order rs p → LeavesTo order p rs count i bound widths sums → CostsAtLeastBeside p order rs bound
  leaves_bound i bound widths sums is halves so =
      let n : ℕ = length rs + order in
      bound_beside order p rs bound halves (λ w cs long may. bound_end w (n / 2 ^ p - order) (n / 2 ^ p) count rs bound _ _ _ (so.bounds w) cs (omega (arith, long, is)) may)
