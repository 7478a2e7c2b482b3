use Rattle.std.proofs.Common.{◌≡◌, ◌/◌, ◌^◌, take, true}
use Rattle.std.specs.Simd.Lanes.{zip2}
use Rattle.flac_header.specs.Assignment.{code_of}
use Rattle.flac_subframe.specs.format.Numbers.{all_fit}
use Rattle.flac_frame.specs.Stereo.{left_of, right_of}
use Rattle.flac_frame.proofs.stereo.join_two.Given as goal

abbrev pub invariant-loop-i : goal.invariant-loop-i
invariant-loop-i l = record {
  none : l.wrong / 2 ^ l.depth ≡ 0 → (all_fit l.depth (take l.i (zip2 (left_of (code_of l.assignment)) l.first l.second)) ≡ true) × (all_fit l.depth (take l.i (zip2 (right_of (code_of l.assignment)) l.first l.second)) ≡ true);
  some : all_fit l.depth (take l.i (zip2 (left_of (code_of l.assignment)) l.first l.second)) ≡ true → all_fit l.depth (take l.i (zip2 (right_of (code_of l.assignment)) l.first l.second)) ≡ true → l.wrong / 2 ^ l.depth ≡ 0;
  left : l.wrong / 2 ^ l.depth ≡ 0 → take l.i l.left ≡ take l.i (zip2 (left_of (code_of l.assignment)) l.first l.second);
  right : l.wrong / 2 ^ l.depth ≡ 0 → take l.i l.right ≡ take l.i (zip2 (right_of (code_of l.assignment)) l.first l.second);
}
