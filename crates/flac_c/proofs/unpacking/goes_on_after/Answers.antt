use Rattle.std.proofs.Common.{arith}
use Rattle.flac_pages.proofs.Stepping.{goes_on_more}
use Rattle.flac_c.proofs.unpacking.goes_on_after.Goals as goal

pub loop-i-preserved : goal.loop-i-preserved
loop-i-preserved c = goes_on_more c.args.before c.args.lacing.now c.loop-i.i (omega arith)
