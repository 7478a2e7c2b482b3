use Rattle.std.proofs.Common.{arith}
use Rattle.flac_rescue.proofs.Extending.{zeros_added}
use Rattle.flac_rescue.proofs.channels.add_zeros.Goals as goal

pub returns : goal.returns
returns c = zeros_added c.args.samples.now.items c.resize.new.self.items c.args.samples.now.len c.in-Some.len c.args.count c.args.samples.now.ok.0 (omega (arith, c.in-Some.ensures, c.len.ensures, c.args.samples.now.ok.0)) c.in_ok-resize.ensures.items
