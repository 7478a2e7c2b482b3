use Rattle.std.proofs.Common.{◌≡◌, take}
use Rattle.flac_frame.specs.Viewed.{frame_of}
use Rattle.flac_frame.specs.Interleaved.{row}
use Rattle.flac_compare.proofs.frames.channel_of_difference.Given as goal

abbrev pub invariant-loop-c : goal.invariant-loop-c
invariant-loop-c l = take l.c (row (frame_of l.first).channels l.i) ≡ take l.c (row (frame_of l.second).channels l.j)
