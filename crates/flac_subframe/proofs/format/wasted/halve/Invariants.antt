use Rattle.std.proofs.Common.{◌≡◌, ◌≤◌, ◌<◌, ℕ}
use Rattle.std.specs.Int.{int_shr}
use Rattle.flac_subframe.specs.format.Numbers.{sample_at}
use Rattle.flac_subframe.proofs.format.wasted.halve.Given as goal

abbrev pub invariant-loop-sample : goal.invariant-loop-sample
invariant-loop-sample l = record {
  done : (i : ℕ) → i < l.sample-index → sample_at l.samples i ≡ int_shr (sample_at l.fn.samples i) 1;
  rest : (i : ℕ) → l.sample-index ≤ i → sample_at l.samples i ≡ sample_at l.fn.samples i;
}
