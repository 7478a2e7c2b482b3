use Rattle.std.proofs.Common.{◌≡◌, ◌<◌, ◌≤◌, ◌+◌, ℕ, ◌+ℤ◌, ◌*ℤ◌}
use Rattle.flac_subframe.specs.format.Numbers.{sample_at}
use Rattle.flac_subframe.proofs.format.packed.add_sample.Given as goal

abbrev pub invariant-loop-j : goal.invariant-loop-j
invariant-loop-j l = record {
  done : (k : ℕ) → k < l.j → sample_at l.sums k ≡ sample_at l.fn.sums (k + 1) +ℤ (sample_at l.factors k *ℤ l.sample);
  rest : (k : ℕ) → l.j ≤ k → sample_at l.sums k ≡ sample_at l.fn.sums k;
}
