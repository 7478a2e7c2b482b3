use Rattle.flac_subframe.specs.format.Handed.{coefficients_in}
use Rattle.std.proofs.Common.{arith, ◌≤◌, length, get_or, refl}
use Rattle.std.proofs.lemmas.List.{take_all}
use Rattle.flac_subframe.specs.declared.format.linear.LinearPredictor.{LinearPredictor}
use Rattle.flac_subframe.proofs.lemmas.format.Digits.{All_step}
use Rattle.flac_subframe.proofs.format.linear.LinearPredictor.are_within.Goals as goal

pub loop-predictor-init : goal.loop-predictor-init
loop-predictor-init c = λ i d lt. absurd (omega (arith, lt))

pub loop-predictor-preserved : goal.loop-predictor-preserved
loop-predictor-preserved c =
    let i = c.loop-predictor.predictor-index in
    let ps = c.args.predictors.now in
    let p = c.predictor-item.result in
    let P : LinearPredictor → Type 0 = λ q. length (coefficients_in q) ≤ c.args.limit in
    let here : P p = omega (arith, c.order.ensures.value, c.if-order-limit.false) in
    let there : P (get_or ps i p) = rw (← c.predictor-item.is) here in
    (All_step P ps i p c.loop-predictor-test.true).1 (c.loop-predictor.invariant, there)

pub returns-then-order-limit : goal.returns-then-order-limit
returns-then-order-limit c = (
  λ no. cc,
  λ all.
      let i = c.loop-predictor.predictor-index in
      let ps = c.args.predictors.now in
      let p = c.predictor-item.result in
      let P : LinearPredictor → Type 0 = λ q. length (coefficients_in q) ≤ c.args.limit in
      let there : P (get_or ps i p) = all i p c.loop-predictor-test.true in
      let here : P p = rw (← c.predictor-item.is) at there in
      absurd (omega (arith, here, c.order.ensures.value, c.if-order-limit.true)),
)

pub returns : goal.returns
returns c = (λ _. rw (take_all c.loop-predictor.predictor-index c.args.predictors.now c.loop-predictor-test.false) at c.loop-predictor.invariant, λ _. refl)
