use Rattle.std.proofs.Common.{◌≡◌, ◌*◌, length, take, drop}
use Rattle.flac_frame.specs.Viewed.{frame_of}
use Rattle.flac_frame.specs.Interleaved.{rows}
use Rattle.flac_frame.proofs.view.FrameView.interleave.Given as goal

abbrev pub invariant-loop-i : goal.invariant-loop-i
invariant-loop-i l = record {
  at : l.at ≡ length (frame_of l.self).channels * l.i;
  rows : take l.at l.out ≡ rows (frame_of l.self).channels l.i 0;
  rest : drop l.at l.out ≡ drop l.at l.initial.out;
}
