use Rattle.std.proofs.Common.{◌≡◌, map, take}
use Rattle.flac_encoder.proofs.stream_format.copied.Given as goal

abbrev pub invariant-loop-channel : goal.invariant-loop-channel
invariant-loop-channel l = map (λ c. c.items) l.channels.items ≡ map (λ c. c.now) (take l.channel-index l.block)
