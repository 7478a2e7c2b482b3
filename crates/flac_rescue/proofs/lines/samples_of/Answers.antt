use Rattle.std.proofs.Common.{arith}
use Rattle.flac_rescue.specs.Report.{and_samples}
use Rattle.flac_rescue.proofs.Lists.{samples_more, samples_end}
use Rattle.flac_rescue.proofs.lines.samples_of.Goals as goal

pub loop-frame-preserved : goal.loop-frame-preserved
loop-frame-preserved c = samples_more c.loop-frame.frame-index c.loop-frame.sum c.saturating_add-sum.result (and_samples 0 c.args.frames.now) c.args.frames.now (omega arith) c.loop-frame.invariant c.saturating_add-sum.ensures

pub returns : goal.returns
returns c = samples_end c.loop-frame.frame-index c.loop-frame.sum (and_samples 0 c.args.frames.now) c.args.frames.now (omega arith) c.loop-frame.invariant
