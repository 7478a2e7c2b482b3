use Rattle.std.proofs.Common.{◌∙◌, ◌+◌, ◌-◌, ◌^◌, min, ap, arith}
use Rattle.flac_rescue.specs.Salvaged.{and_missing}
use Rattle.flac_rescue.proofs.Salvaging.{missing_more, missing_end}
use Rattle.flac_rescue.proofs.salvage.missing_in.Goals as goal

pub loop-gap-preserved : goal.loop-gap-preserved
loop-gap-preserved c = missing_more c.loop-gap.gap-index c.loop-gap.sum c.saturating_add-sum.result (and_missing 0 c.args.gaps.now) c.args.gaps.now (omega arith) c.loop-gap.invariant (c.saturating_add-sum.ensures ∙ ap (λ k. min (c.loop-gap.sum + k) (2 ^ 64 - 1)) c.saturating_sub.ensures)

pub returns : goal.returns
returns c = missing_end c.loop-gap.gap-index c.loop-gap.sum (and_missing 0 c.args.gaps.now) c.args.gaps.now (omega arith) c.loop-gap.invariant
