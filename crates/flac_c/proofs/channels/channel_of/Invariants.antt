use Rattle.std.proofs.Common.{◌≡◌}
use Rattle.flac_c.specs.Interleaved.{channel_at}
use Rattle.flac_c.proofs.channels.channel_of.Given as goal

abbrev pub invariant-loop-i : goal.invariant-loop-i
invariant-loop-i l = l.own.items ≡ channel_at l.samples l.count l.channel l.i
