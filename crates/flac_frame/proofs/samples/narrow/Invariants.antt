use Rattle.std.proofs.Common.{◌≡◌, ◌/◌, ◌^◌, take, true}
use Rattle.flac_subframe.specs.format.Numbers.{all_fit}
use Rattle.flac_frame.proofs.samples.narrow.Given as goal

abbrev pub invariant-loop-i : goal.invariant-loop-i
invariant-loop-i l = record {
  none : l.wrong / 2 ^ l.depth ≡ 0 → all_fit l.depth (take l.i l.samples) ≡ true;
  some : all_fit l.depth (take l.i l.samples) ≡ true → l.wrong / 2 ^ l.depth ≡ 0;
  same : l.wrong / 2 ^ l.depth ≡ 0 → take l.i l.out ≡ take l.i l.samples;
}
