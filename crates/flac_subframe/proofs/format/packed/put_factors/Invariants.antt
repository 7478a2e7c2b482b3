use Rattle.std.proofs.Common.{◌≡◌, ◌+◌, ◌<◌, ℕ}
use Rattle.flac_subframe.specs.format.Numbers.{sample_at}
use Rattle.flac_subframe.specs.format.inner.Packing.{paired}
use Rattle.flac_subframe.proofs.format.packed.put_factors.Given as goal

abbrev pub invariant-loop-j : goal.invariant-loop-j
invariant-loop-j l = (k : ℕ) → k < l.j → sample_at l.factors k ≡ paired (sample_at l.coefficients k) (sample_at l.coefficients (k + l.half))
