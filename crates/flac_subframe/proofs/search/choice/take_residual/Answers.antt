use Rattle.std.proofs.Common.{arith, ◌≡◌, ◌∙◌, ◌+◌, ◌-◌, ◌≤◌, ◌<◌, ℕ, ℤ, List, sym, length, take, get_or}
use Rattle.std.proofs.lemmas.List.{get_or-map, length-take-le}
use Rattle.flac_subframe.specs.format.Bodies.{fixed}
use Rattle.flac_subframe.specs.format.Handed.{predictor_of, handed_at}
use Rattle.flac_subframe.proofs.lemmas.search.Residues.{residual_put}
use Rattle.flac_subframe.proofs.lemmas.format.Predicted.{fixed_length}
use Rattle.flac_subframe.proofs.search.choice.take_residual.Goals as goal

fewer : (a b n : ℕ) → a ≡ b → b < n → a ≤ n
fewer a b n e h = omega arith

left : (n k m : ℕ) → n ≤ m → n - k ≤ m
left n k m h = omega arith

fills : (n k o : ℕ) (values : List ℤ) → n ≤ length values → k < n → k ≡ o → length (take (n - k) values) + o ≡ n
fills n k o values room less is = omega (arith, length-take-le (n - k) values (left n k _ room))

as_long : (n k : ℕ) (values : List ℤ) (folds : List ℕ) → n ≤ length values → n ≤ length folds → length (take (n - k) folds) ≡ length (take (n - k) values)
as_long n k values folds h g = length-take-le (n - k) folds (left n k _ g) ∙ sym (length-take-le (n - k) values (left n k _ h))

pub order-requires : goal.order-requires
order-requires c = c.requires.named

pub overflow_sub-count : goal.overflow_sub-count
overflow_sub-count c = fewer _ _ _ c.order.ensures.value c.requires.room

pub slice_bounds-values-end : goal.slice_bounds-values-end
slice_bounds-values-end c = left _ c.order.result _ c.requires.values

pub slice_bounds-values-end-2 : goal.slice_bounds-values-end-2
slice_bounds-values-end-2 c = sym (length-take-le (length c.args.subject.now.samples.now - c.order.result) c.args.values.now (left _ c.order.result _ c.requires.values))

pub slice_bounds-folds-end : goal.slice_bounds-folds-end
slice_bounds-folds-end c = left _ c.order.result _ c.requires.folds

pub slice_bounds-folds-end-2 : goal.slice_bounds-folds-end-2
slice_bounds-folds-end-2 c = sym (length-take-le (length c.args.subject.now.samples.now - c.order.result) c.args.folds.now (left _ c.order.result _ c.requires.folds))

pub take_fixed_residual-requires : goal.take_fixed_residual-requires
take_fixed_residual-requires c =
    let n = length c.args.subject.now.samples.now in let k = c.order.result in
    let named = rw c.in-Fixed.is at c.requires.named in
    let is = (rw c.in-Fixed.is at c.order.ensures.value) ∙ fixed_length c.in-Fixed.order named in
    record {
      order = named;
      places = fills n k c.in-Fixed.order c.args.values.now c.requires.values (rw c.order.ensures.value c.requires.room) is;
      wide = c.requires.wide;
      folds = as_long n k c.args.values.now c.args.folds.now c.requires.values c.requires.folds;
    }

pub bounds-subject-index : goal.bounds-subject-index
bounds-subject-index c = rw c.in-Linear.is at c.requires.named

pub take_linear_residual-requires : goal.take_linear_residual-requires
take_linear_residual-requires c =
    let n = length c.args.subject.now.samples.now in let k = c.order.result in
    let hs = c.args.subject.now.predictors.now in let index = c.in-Linear.index in let q = c.index-subject-index.result in
    let named : handed_at hs index ≡ predictor_of (get_or hs index q) = get_or-map predictor_of hs index q (fixed 0) (rw c.in-Linear.is at c.requires.named) in
    let is = rw (c.in-Linear.is, named) at c.order.ensures.value in
    record {
      places = fills n k _ c.args.values.now c.requires.values (rw c.order.ensures.value c.requires.room) is;
      wide = c.requires.wide;
      folds = as_long n k c.args.values.now c.args.folds.now c.requires.values c.requires.folds;
    }

pub returns-in-Fixed : goal.returns-in-Fixed
returns-in-Fixed c =
    let so = c.take_fixed_residual.ensures in
    record {
      residual = λ t. rw c.in-Fixed.is (residual_put _ _ _ _ _ (so.values t) (so.unsigned t) (so.range t));
      all = λ h. so.all (rw c.in-Fixed.is at h);
    }

pub returns-in-Linear : goal.returns-in-Linear
returns-in-Linear c =
    let hs = c.args.subject.now.predictors.now in let index = c.in-Linear.index in let q = c.index-subject-index.result in
    let named : handed_at hs index ≡ predictor_of (get_or hs index q) = get_or-map predictor_of hs index q (fixed 0) (rw c.in-Linear.is at c.requires.named) in
    let so = c.take_linear_residual.ensures in
    record {
      residual = λ t. rw (c.in-Linear.is, named) (residual_put _ _ _ _ _ (so.values t) (so.unsigned t) (so.range t));
      all = λ h. so.all (rw (c.in-Linear.is, named) at h);
    }
