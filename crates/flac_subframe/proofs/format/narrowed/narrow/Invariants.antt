use Rattle.std.proofs.Common.{◌≡◌, take, All, ◌<◌, ◌^◌}
use Rattle.flac_bits.specs.Signed.{FitsBits}
use Rattle.flac_subframe.proofs.format.narrowed.narrow.Given as goal

abbrev pub invariant-loop-i : goal.invariant-loop-i
invariant-loop-i l = record {
  fits : l.all < 2 ^ 27 → All (FitsBits 27) (take l.i l.samples);
  same : l.all < 2 ^ 27 → take l.i l.narrowed ≡ take l.i l.samples;
}
