use Rattle.std.proofs.Common.{take}
use Rattle.flac_frame.proofs.Copies.{AreCopies}
use Rattle.flac_frame.proofs.frame_choice.FrameChoice.kept.Given as goal

abbrev pub invariant-loop-channel : goal.invariant-loop-channel
invariant-loop-channel l = AreCopies l.subframes.items (take l.channel l.own)
