use Rattle.std.proofs.Common.{◌≡◌, ◌<◌, ℕ}
use Rattle.flac_subframe.specs.format.Numbers.{sample_at}
use Rattle.flac_subframe.proofs.search.choice.all_equal.Given as goal

abbrev pub invariant-loop-sample : goal.invariant-loop-sample
invariant-loop-sample l = (k : ℕ) → k < l.sample-index → sample_at l.samples k ≡ sample_at l.samples 0
