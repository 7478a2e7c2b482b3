use Rattle.std.proofs.Common.{arith, ◌≡◌, ◌+◌, ◌-◌, ◌*◌, ◌≤◌, ◌<◌, refl, ℕ, length}
use Rattle.flac_subframe.specs.format.Bodies.{Chooses, coefficients_of, order_of, fields_cost}
use Rattle.flac_subframe.specs.format.Chosen.{predictor_named}
use Rattle.flac_subframe.specs.search.inner.Chosen.{way_of}
use Rattle.flac_subframe.proofs.lemmas.search.Searching.{residual_taken, too_long, out_of_range, too_dear, no_better, better}
use Rattle.flac_subframe.proofs.search.choice.improve.Goals as goal

itself : (n : ℕ) → n ≤ n
itself n = omega arith

with_more : (n more : ℕ) → n ≤ n + more
with_more n more = omega arith

still_room : (n new old : ℕ) → new ≡ old → n ≤ old → n ≤ new
still_room n new old e h = rw e h

below : (n m : ℕ) → n < m → n ≤ m
below n m h = omega arith

before_is : (p : Chooses) (d order from field : ℕ) → order ≡ length (coefficients_of p) → from ≡ d → field ≡ fields_cost p → from * order + field ≡ d * order_of p + fields_cost p
before_is p d order from field o e f = rw (o, e, f) refl

pub returns-then-order-subject : goal.returns-then-order-subject
returns-then-order-subject c = record {
  best = λ tried so.
      let view = c.args.subject.now in let hs = view.predictors.now in let p = predictor_named hs c.args.kind in let order = c.order-order in
      too_long hs view.most view.bits view.samples.now tried p order.result (view.bits * order.result + fields_cost p) order.ensures.value (before_is p view.bits order.result view.bits (fields_cost p) order.ensures.value refl refl)
      (way_of c.args.best.now c.args.tables.now.codings.now) so c.if-order-subject.true;
  less = itself _;
  within = λ h. h;
  arrays = c.requires.arrays;
  tables = c.requires.tables;
  same = refl;
  coarse = λ h. with_more _ _;
  priced = with_more _ _;
}

pub returns-then-limit-before : goal.returns-then-limit-before
returns-then-limit-before c = record {
  best = λ tried so.
      let view = c.args.subject.now in let hs = view.predictors.now in let p = predictor_named hs c.args.kind in let order = c.order-order in
      let before = before_is p view.bits order.result c.from.result c.field_bits.result order.ensures.value c.from.ensures c.field_bits.ensures.value in
      too_dear hs view.most view.bits view.samples.now tried p order.result (c.from.result * order.result + c.field_bits.result) order.ensures.value before
      (way_of c.args.best.now c.args.tables.now.codings.now) so (omega (arith, c.if-limit-before.true, c.limit-limit.ensures.0));
  less = itself _;
  within = λ h. h;
  arrays = c.requires.arrays;
  tables = c.requires.tables;
  same = refl;
  coarse = λ h. with_more _ _;
  priced = with_more _ _;
}

pub returns-then-not-take_residual : goal.returns-then-not-take_residual
returns-then-not-take_residual c = record {
  best = λ tried so.
      let view = c.args.subject.now in let hs = view.predictors.now in let p = predictor_named hs c.args.kind in let order = c.order-order in
      let before = before_is p view.bits order.result c.from.result c.field_bits.result order.ensures.value c.from.ensures c.field_bits.ensures.value in
      out_of_range hs view.most view.bits view.samples.now tried p order.result (c.from.result * order.result + c.field_bits.result) order.ensures.value before
      (way_of c.args.best.now c.args.tables.now.codings.now) so (λ all. cc (c.take_residual.ensures.all all, c.if-not-take_residual.true));
  less = itself _;
  within = λ h. h;
  arrays = record {
    wide = still_room _ _ _ c.take_residual.auto.wide c.requires.arrays.wide;
    values = still_room _ _ _ c.take_residual.auto.values c.requires.arrays.values;
    folds = still_room _ _ _ c.take_residual.auto.folds c.requires.arrays.folds;
  };
  tables = c.requires.tables;
  same = refl;
  coarse = λ h. with_more _ _;
  priced = with_more _ _;
}

pub returns-in-Some-clause-best : goal.returns-in-Some-clause-best
returns-in-Some-clause-best c = λ tried so.
    let view = c.args.subject.now in let hs = view.predictors.now in let p = predictor_named hs c.args.kind in let order = c.order-order in
    let before = before_is p view.bits order.result c.from.result c.field_bits.result order.ensures.value c.from.ensures c.field_bits.ensures.value in
    let left = c.take_residual.ensures.residual c.if-not-take_residual.false in
    let is = residual_taken p view.samples.now order.result _ _ order.ensures.value left in
    let new = c.in-Some.ensures in
    let least = rw is at new.least in
    let bits = rw is at new.bits in
    better hs view.most view.bits view.samples.now tried p order.result (c.from.result * order.result + c.field_bits.result) order.ensures.value before
    (way_of c.args.best.now c.args.tables.now.codings.now) so _ c.in-Some.residual.bits _ (omega arith) left.range least bits new.small refl (omega (arith, new.less, c.limit-limit.ensures.1))
    c.requires.named refl

pub returns-in_default : goal.returns-in_default
returns-in_default c = record {
  best = λ tried so.
      let view = c.args.subject.now in let hs = view.predictors.now in let p = predictor_named hs c.args.kind in let order = c.order-order in
      let before = before_is p view.bits order.result c.from.result c.field_bits.result order.ensures.value c.from.ensures c.field_bits.ensures.value in
      let left = c.take_residual.ensures.residual c.if-not-take_residual.false in
      let is = residual_taken p view.samples.now order.result _ _ order.ensures.value left in
      let new = c.in_default.ensures in
      let none = rw is at new.none in
      rw new.kept (no_better hs view.most view.bits view.samples.now tried p order.result (c.from.result * order.result + c.field_bits.result) order.ensures.value before
      (way_of c.args.best.now c.args.tables.now.codings.now) so (c.limit-limit.result - (c.from.result * order.result + c.field_bits.result)) (omega (arith, c.limit-limit.ensures.0)) none);
  less = itself _;
  within = λ h. h;
  arrays = record {
    wide = still_room _ _ _ c.take_residual.auto.wide c.requires.arrays.wide;
    values = still_room _ _ _ c.take_residual.auto.values c.requires.arrays.values;
    folds = still_room _ _ _ c.take_residual.auto.folds c.requires.arrays.folds;
  };
  tables = c.least_form.ensures.places;
  same = c.least_form.ensures.same;
  coarse = c.least_form.ensures.coarse;
  priced = c.least_form.ensures.priced;
}

pub returns-in-Some-clause-arrays : goal.returns-in-Some-clause-arrays
returns-in-Some-clause-arrays c = record {
  wide = still_room _ _ _ c.take_residual.auto.wide c.requires.arrays.wide;
  values = still_room _ _ _ c.take_residual.auto.values c.requires.arrays.values;
  folds = still_room _ _ _ c.take_residual.auto.folds c.requires.arrays.folds;
}

pub returns-in-Some-clause-tables : goal.returns-in-Some-clause-tables
returns-in-Some-clause-tables c = c.least_form.ensures.places

pub returns-in-Some-clause-same : goal.returns-in-Some-clause-same
returns-in-Some-clause-same c = c.least_form.ensures.same

pub returns-in-Some-clause-coarse : goal.returns-in-Some-clause-coarse
returns-in-Some-clause-coarse c = c.least_form.ensures.coarse

pub returns-in-Some-clause-priced : goal.returns-in-Some-clause-priced
returns-in-Some-clause-priced c = c.least_form.ensures.priced

pub returns-in-Some-clause-within : goal.returns-in-Some-clause-within
returns-in-Some-clause-within c = λ h. c.in-Some.ensures.within

pub take_residual-requires : goal.take_residual-requires
take_residual-requires c = record {
  named = c.requires.named;
  room = rw c.order-order.ensures.value at c.if-order-subject.false;
  wide = c.requires.arrays.wide;
  values = c.requires.arrays.values;
  folds = c.requires.arrays.folds;
}

pub overflow_sub-limit : goal.overflow_sub-limit
overflow_sub-limit c = below _ _ c.if-limit-before.false

pub least_form-requires : goal.least_form-requires
least_form-requires c =
    let view = c.args.subject.now in let p = predictor_named view.predictors.now c.args.kind in
    let so = c.take_residual.ensures.residual c.if-not-take_residual.false in
    record {
      order = c.if-order-subject.false;
      values = still_room _ _ _ c.take_residual.auto.values c.requires.arrays.values;
      residual = rw (residual_taken p view.samples.now c.order-order.result _ _ c.order-order.ensures.value so) so;
      folds = still_room _ _ _ c.take_residual.auto.folds c.requires.arrays.folds;
      tables = c.requires.tables;
    }
