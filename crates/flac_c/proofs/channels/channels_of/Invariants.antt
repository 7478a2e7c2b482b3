use Rattle.std.proofs.Common.{◌≡◌, ◌/◌, map, length}
use Rattle.flac_c.specs.Interleaved.{channels_at}
use Rattle.flac_c.proofs.channels.channels_of.Given as goal

abbrev pub invariant-loop-channel : goal.invariant-loop-channel
invariant-loop-channel l = map (λ c. c.items) l.channels.items ≡ channels_at l.samples l.count (length l.samples / l.count) l.channel
