use Rattle.std.proofs.Common.{arith, ◌<◌, ◌^◌, get_or}
use Rattle.std.proofs.lemmas.List.{take_all}
use Rattle.std.proofs.lemmas.Nat.{or_lt, le_or_l, le_or_r}
use Rattle.flac_subframe.proofs.lemmas.format.Digits.{All_step}
use Rattle.flac_subframe.proofs.search.cost.bits_of.Goals as goal

pub loop-number-preserved : goal.loop-number-preserved
loop-number-preserved c = λ n.
    let i = c.loop-number.number-index in
    let ns = c.args.folds.now in
    let step = All_step (λ k. k < 2 ^ n) ns i 0 c.loop-number-test.true in
    let before = c.loop-number.invariant n in (
      λ all. or_lt n c.loop-number.bits (get_or ns i 0) (before.0 (step.0 all).0) (step.0 all).1,
      λ below. step.1 (before.1 (omega (arith, below, le_or_l c.loop-number.bits (get_or ns i 0))), omega (arith, below, le_or_r c.loop-number.bits (get_or ns i 0))),
    )

pub returns : goal.returns
returns c = λ n.
    let ns = c.args.folds.now in
    rw (take_all c.loop-number.number-index ns c.loop-number-test.false) at (c.loop-number.invariant n)
