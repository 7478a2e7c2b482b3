use Rattle.std.proofs.Common.{◌≡◌, map}
use Rattle.flac_frame.specs.Viewed.{frame_of}
use Rattle.flac_rescue.proofs.Extending.{extended_first}
use Rattle.flac_rescue.proofs.channels.extend_channels.Given as goal

abbrev pub invariant-loop-channel : goal.invariant-loop-channel
invariant-loop-channel l = map (λ c. c.items) l.channels ≡ extended_first l.channel (map (λ c. c.items) l.fn.channels) (frame_of l.frame).channels
