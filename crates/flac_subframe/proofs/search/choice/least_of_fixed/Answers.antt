use Rattle.std.proofs.Common.{arith, ◌≡◌, ◌∙◌, ◌+◌, ◌-◌, ◌*◌, ◌^◌, ◌≤◌, ◌<◌, min, refl, sym, ap, ℕ, ℤ, List, length, take, map}
use Rattle.std.proofs.lemmas.List.{length-take-le}
use Rattle.std.proofs.lemmas.Nat.{pow_pos}
use Rattle.flac_bits.specs.Rice.{folded}
use Rattle.flac_subframe.specs.format.Bodies.{differences}
use Rattle.flac_subframe.specs.format.Prediction.{fixed_coefficients}
use Rattle.flac_subframe.proofs.lemmas.format.Narrow.{narrow_differences}
use Rattle.flac_subframe.proofs.lemmas.search.Folds.{folds_small}
use Rattle.flac_subframe.proofs.lemmas.search.Pieces.{halves_of_sixteen, length-left}
use Rattle.flac_subframe.proofs.lemmas.search.Places.{places_kept, power_le}
use Rattle.flac_subframe.proofs.search.choice.least_of_fixed.Goals as goal

saturated : (a b r : ℕ) → r ≡ min (a + b) (2 ^ 64 - 1) → r ≤ a + b
saturated a b r is = omega arith

less_order : (order n p : ℕ) → order ≤ 4 → n ≡ 16 * 2 ^ p → 0 < 2 ^ p → order < n
less_order order n p few is some = omega arith

few_priced : (old new n order : ℕ) → new ≤ old + 2 * (n - order) → new ≤ old + 32 * n
few_priced old new n order so = omega arith

above : (below rough fields cost : ℕ) → below ≤ rough → rough + (6 + fields) ≤ cost → below ≤ cost
above below rough fields cost h g = omega arith

front : (n k m : ℕ) → n ≤ m → n - k ≤ m
front n k m h = omega arith

fills : (n k : ℕ) (values : List ℤ) → n ≤ length values → k < n → length (take (n - k) values) + k ≡ n
fills n k values room less = omega (arith, length-take-le (n - k) values (front n k _ room))

as_long : (n k : ℕ) (values : List ℤ) (folds : List ℕ) → n ≤ length values → n ≤ length folds → length (take (n - k) folds) ≡ length (take (n - k) values)
as_long n k values folds h g = length-take-le (n - k) folds (front n k _ g) ∙ sym (length-take-le (n - k) values (front n k _ h))

whole : (order : ℕ) (s : List ℤ) (p : ℕ) → order ≤ 4 → length s ≡ 16 * 2 ^ p → 0 < 2 ^ p → length (differences (fixed_coefficients order) 0 s) + order ≡ 16 * 2 ^ p
whole order s p few is some = omega (arith, length-left order s few)

few_all : (m k n p : ℕ) → m + k ≡ n → n ≡ 16 * 2 ^ p → 2 ^ p ≤ 2 ^ 8 → m + k ≤ 65535
few_all m k n p e is h = omega arith

coarse_within : (p : ℕ) → p ≤ 8 → p ≤ 15
coarse_within p h = omega arith

priced_all : (old new m k n : ℕ) → m + k ≡ n → new ≤ old + 32 * m → new ≤ old + 32 * n
priced_all old new m k n e so = omega arith

still : (a b k n : ℕ) → a ≡ b → b + k ≡ n → a + k ≡ n
still a b k n e is = omega arith

pub lowest_by_fixed-rough-requires : goal.lowest_by_fixed-rough-requires
lowest_by_fixed-rough-requires c =
    let fixed = c.args.fixed.now in
    record {
      order = fixed.few;
      fits = fixed.fits;
      few = fixed.coarse;
      sixteens = fixed.sixteens;
      widths = c.requires.tables.widths;
      sums = c.requires.tables.leaves;
    }

pub returns-then-rough-below : goal.returns-then-rough-below
returns-then-rough-below c =
    let low = c.lowest_by_fixed-rough in
    record {
      least = tt;
      bits = tt;
      within = tt;
      less = tt;
      small = tt;
      kept = refl;
      none = λ f m. above c.args.below low.result _ _ c.if-rough-below.true (low.ensures.bound f m);
      places = λ most h. places_kept most c.args.tables.now _ low.auto.sums refl refl refl low.ensures.long refl h;
      same = refl;
      priced = few_priced c.args.tables.now.priced _ (length c.args.fixed.now.samples.now) c.args.fixed.now.order (saturated _ _ _ c.saturating_add-tables.ensures);
    }

pub take_narrow-requires : goal.take_narrow-requires
take_narrow-requires c =
    let fixed = c.args.fixed.now in let n = length fixed.samples.now in let o = fixed.order in
    record {
      order = fixed.few;
      fits = fixed.fits;
      places = fills n o c.args.values.now c.requires.values (less_order o n fixed.partition_order fixed.few fixed.sixteens (pow_pos fixed.partition_order));
      folds = as_long n o c.args.values.now c.args.folds.now c.requires.values c.requires.folds;
    }

pub invariant_of-residual : goal.invariant_of-residual
invariant_of-residual c =
    let fixed = c.args.fixed.now in let s = fixed.samples.now in let n = length s in let o = fixed.order in let p = fixed.partition_order in
    let rs = differences (fixed_coefficients o) 0 s in
    let so = c.take_narrow.ensures in
    let all = narrow_differences o s fixed.few fixed.fits in
    let filled = fills n o c.args.values.now c.requires.values (less_order o n p fixed.few fixed.sixteens (pow_pos p)) in
    record {
      few = few_all _ o n p (still _ _ o n c.take_narrow.auto.values filled) fixed.sixteens (power_le p 8 fixed.coarse);
      range = rw so.values all;
      unsigned = so.folds ∙ ap (map folded) (sym so.values);
      small = rw so.folds (folds_small rs all);
      long = c.take_narrow.auto.folds ∙ as_long n o c.args.values.now c.args.folds.now c.requires.values c.requires.folds ∙ sym c.take_narrow.auto.values;
      most = coarse_within p fixed.coarse;
      halves = rw so.values (halves_of_sixteen o p rs fixed.few (whole o s p fixed.few fixed.sixteens (pow_pos p)));
    }

pub least_weighed-requires : goal.least_weighed-requires
least_weighed-requires c =
    let low = c.lowest_by_fixed-rough in let values = c.take_narrow.ensures.values in
    record {
      places = places_kept c.args.fixed.now.partition_order c.args.tables.now _ low.auto.sums refl refl refl low.ensures.long refl c.requires.tables;
      known = rw values (low.ensures.costs c.if-rough-below.false);
      widths = rw values (low.ensures.widths c.if-rough-below.false);
      beside = rw values low.ensures.bound;
    }

pub returns : goal.returns
returns c =
    let fixed = c.args.fixed.now in let n = length fixed.samples.now in let o = fixed.order in
    let low = c.lowest_by_fixed-rough in let values = c.take_narrow.ensures.values in let so = c.least_weighed.ensures in
    let filled = fills n o c.args.values.now c.requires.values (less_order o n fixed.partition_order fixed.few fixed.sixteens (pow_pos fixed.partition_order)) in
    record {
      least = rw values at so.least;
      bits = rw values at so.bits;
      within = so.within;
      less = so.less;
      small = so.small;
      kept = so.kept;
      none = rw values at so.none;
      places = λ most h. so.places most (places_kept most c.args.tables.now _ low.auto.sums refl refl refl low.ensures.long refl h);
      same = so.same;
      priced = priced_all c.args.tables.now.priced _ _ o n (still _ _ o n c.take_narrow.auto.values filled) so.priced;
    }
