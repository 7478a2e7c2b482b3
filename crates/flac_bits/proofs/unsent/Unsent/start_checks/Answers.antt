use Rattle.std.proofs.Common.{arith}
use Rattle.flac_bits.proofs.Putting.{restarted}
use Rattle.flac_bits.proofs.unsent.Unsent.start_checks.Goals as goal

pub returns : goal.returns
returns c = let i = c.self.inside in let inv = c.self.invariant in
    restarted i.bytes i.from i.end i.before i.check8 i.check16 i.rest c.args.self.now inv.0 (omega (arith, inv)) c.requires c.self.view_is
