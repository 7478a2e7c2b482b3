use Rattle.std.proofs.Common.{arith, ◌≡◌, ◌∙◌, ◌+◌, ◌≤◌, ◌<◌, ℕ, false, IsTrue, refl, sym, length}
use Rattle.std.proofs.lemmas.List.{length-take-le}
use Rattle.flac_subframe.proofs.lemmas.search.Folds.{folds_small}
use Rattle.flac_subframe.proofs.search.choice.take_linear_residual.Goals as goal

fits_wide : (v k n w : ℕ) → v + k ≡ n → n ≤ w → v ≤ w
fits_wide v k n w e h = omega arith

below_16 : (n : ℕ) → n ≤ 15 → n < 16
below_16 n h = omega arith

untrue : IsTrue false → ⊥
untrue t = cc

pub take_products-requires : goal.take_products-requires
take_products-requires c =
    let cs = c.coefficients-coefficients.ensures in let s = c.args.subject.now in
    record {
      few = cs.few;
      small = cs.fit;
      shift = below_16 _ c.shift-shift.ensures.few;
      peak = s.peaked c.if-subject.true;
      places = rw (cs.value, s.same c.if-subject.true) c.requires.places;
      folds = c.requires.folds;
    }

pub returns-then-take_products : goal.returns-then-take_products
returns-then-take_products c =
    let so = c.take_products.ensures in let yes = c.if-take_products.true in
    let same = c.args.subject.now.same c.if-subject.true in
    record {
      values = λ _. rw (c.coefficients-coefficients.ensures.value, c.shift-shift.ensures.value, same) at (so.values yes);
      range = λ _. so.range yes;
      unsigned = λ _. so.folds yes;
      small = λ _. rw (so.folds yes) (folds_small _ (so.range yes));
      all = λ _. refl;
    }

pub slice_bounds-wide-end : goal.slice_bounds-wide-end
slice_bounds-wide-end c = rw c.else-subject.auto.values (fits_wide _ _ _ _ c.requires.places c.requires.wide)

pub slice_bounds-wide-end-2 : goal.slice_bounds-wide-end-2
slice_bounds-wide-end-2 c = sym (length-take-le (length c.else-subject.values) c.args.wide.now (rw c.else-subject.auto.values (fits_wide _ _ _ _ c.requires.places c.requires.wide)))

pub take_wide-requires : goal.take_wide-requires
take_wide-requires c =
    let long = length-take-le (length c.else-subject.values) c.args.wide.now (rw c.else-subject.auto.values (fits_wide _ _ _ _ c.requires.places c.requires.wide)) in
    record { places = rw (long ∙ c.else-subject.auto.values) c.requires.places }

pub fold_each-requires : goal.fold_each-requires
fold_each-requires c =
    let long = length-take-le (length c.else-subject.values) c.args.wide.now (rw c.else-subject.auto.values (fits_wide _ _ _ _ c.requires.places c.requires.wide)) in
    let as_long = sym (c.take_wide.auto.wide ∙ long) in
    record {
      range = rw c.take_wide.ensures.all (c.take_wide.ensures.range.0 c.if-not-take_wide.false);
      places = as_long;
      folds = c.else-subject.auto.folds ∙ c.requires.folds ∙ sym c.else-subject.auto.values ∙ as_long;
    }

pub returns-clause-values : goal.returns-clause-values
returns-clause-values c = λ _. c.fold_each.ensures.values ∙ c.take_wide.ensures.all

pub returns-clause-all : goal.returns-clause-all
returns-clause-all c = λ _. refl

pub returns-then-not-take_wide-clause-values : goal.returns-then-not-take_wide-clause-values
returns-then-not-take_wide-clause-values c = λ t. absurd (untrue t)

pub returns-then-not-take_wide-clause-range : goal.returns-then-not-take_wide-clause-range
returns-then-not-take_wide-clause-range c = λ t. absurd (untrue t)

pub returns-then-not-take_wide-clause-unsigned : goal.returns-then-not-take_wide-clause-unsigned
returns-then-not-take_wide-clause-unsigned c = λ t. absurd (untrue t)

pub returns-then-not-take_wide-clause-small : goal.returns-then-not-take_wide-clause-small
returns-then-not-take_wide-clause-small c = λ t. absurd (untrue t)

pub returns-clause-range : goal.returns-clause-range
returns-clause-range c = λ _. rw (c.fold_each.ensures.values, c.take_wide.ensures.all) (c.take_wide.ensures.range.0 c.if-not-take_wide.false)

pub returns-clause-unsigned : goal.returns-clause-unsigned
returns-clause-unsigned c = λ _. rw (c.fold_each.ensures.folds, c.fold_each.ensures.values) refl

pub returns-clause-small : goal.returns-clause-small
returns-clause-small c = λ _. rw (c.fold_each.ensures.folds, c.take_wide.ensures.all) (folds_small _ (c.take_wide.ensures.range.0 c.if-not-take_wide.false))

pub returns-then-not-take_wide-clause-all : goal.returns-then-not-take_wide-clause-all
returns-then-not-take_wide-clause-all c = λ all. cc (c.take_wide.ensures.range.1 all, c.if-not-take_wide.true)
