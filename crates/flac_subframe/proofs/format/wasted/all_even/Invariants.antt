use Rattle.std.proofs.Common.{◌≡◌, ◌<◌, ◌+ℤ◌, ℕ}
use Rattle.std.specs.Int.{int_shr}
use Rattle.flac_subframe.specs.format.Numbers.{sample_at}
use Rattle.flac_subframe.proofs.format.wasted.all_even.Given as goal

abbrev pub invariant-loop-sample : goal.invariant-loop-sample
invariant-loop-sample l = (i : ℕ) → i < l.sample-index → int_shr (sample_at l.samples i) 1 +ℤ int_shr (sample_at l.samples i) 1 ≡ sample_at l.samples i
