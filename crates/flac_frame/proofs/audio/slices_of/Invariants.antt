use Rattle.std.proofs.Common.{◌≡◌, take, map, length}
use Rattle.flac_frame.proofs.audio.slices_of.Given as goal

abbrev pub invariant-loop-i : goal.invariant-loop-i
invariant-loop-i l = record {
  long : length l.slices ≡ 8;
  same : map (λ c. c.now) (take l.i l.slices) ≡ map (λ c. c.items) (take l.i l.channels);
}
