use Rattle.std.proofs.Common.{◌≡◌, ◌<◌, ℕ, length, All}
use Rattle.flac_bits.specs.Signed.{FitsBits}
use Rattle.flac_subframe.specs.format.Numbers.{sample_at}
use Rattle.flac_subframe.specs.format.Wasted.{times_power}
use Rattle.flac_subframe.proofs.format.wasted.drop_wasted.Given as goal

abbrev pub invariant-loop-wasted : goal.invariant-loop-wasted
invariant-loop-wasted l = record {
  long : length l.shortened ≡ length l.samples;
  so : (i : ℕ) → i < length l.samples → sample_at l.samples i ≡ times_power l.wasted (sample_at l.shortened i);
  fits : All (FitsBits 33) l.shortened;
}
