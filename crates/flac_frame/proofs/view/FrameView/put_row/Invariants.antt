use Rattle.std.proofs.Common.{◌≡◌, ◌+◌, ◌++◌, take, drop}
use Rattle.flac_frame.specs.Viewed.{frame_of}
use Rattle.flac_frame.specs.Interleaved.{row}
use Rattle.flac_frame.proofs.view.FrameView.put_row.Given as goal

abbrev pub invariant-loop-c : goal.invariant-loop-c
invariant-loop-c l = record {
  row : take (l.at + l.c) l.out ≡ take l.at l.initial.out ++ row (take l.c (frame_of l.self).channels) l.i;
  rest : drop (l.at + l.c) l.out ≡ drop (l.at + l.c) l.initial.out;
}
