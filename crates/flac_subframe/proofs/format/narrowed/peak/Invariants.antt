use Rattle.std.proofs.Common.{◌≤◌, ◌<◌, ℕ}
use Rattle.std.specs.Int.RustNames.{unsigned_abs}
use Rattle.flac_subframe.specs.format.Numbers.{sample_at}
use Rattle.flac_subframe.proofs.format.narrowed.peak.Given as goal

abbrev pub invariant-loop-sample : goal.invariant-loop-sample
invariant-loop-sample l = (i : ℕ) → i < l.sample-index → unsigned_abs (sample_at l.samples i) ≤ l.most
