use Rattle.std.proofs.Common.{◌≡◌, length}
use Rattle.flac_frame.specs.Chosen.{AllHaveCodings}
use Rattle.flac_frame.proofs.frame_choice.FrameChoice.new.Given as goal

abbrev pub invariant-loop-channel : goal.invariant-loop-channel
invariant-loop-channel l = record {
  many : length l.subframes.items ≡ l.channel;
  codings : AllHaveCodings l.limits.partition l.subframes.items;
}
