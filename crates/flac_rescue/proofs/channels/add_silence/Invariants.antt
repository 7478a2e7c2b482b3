use Rattle.std.proofs.Common.{◌≡◌, map}
use Rattle.flac_rescue.proofs.Extending.{silent_first}
use Rattle.flac_rescue.proofs.channels.add_silence.Given as goal

abbrev pub invariant-loop-channel : goal.invariant-loop-channel
invariant-loop-channel l = map (λ c. c.items) l.channels ≡ silent_first l.count l.channel (map (λ c. c.items) l.fn.channels)
