use Rattle.std.proofs.Common.{ℕ, ◌<◌, ◌≡◌, ◌+◌, ◌-ℤ◌}
use Rattle.std.specs.Int.{int_shr}
use Rattle.flac_subframe.specs.format.Numbers.{sample_at}
use Rattle.flac_subframe.proofs.format.products.leave_wide.Given as goal

abbrev pub invariant-loop-index : goal.invariant-loop-index
invariant-loop-index l = (j : ℕ) → j < l.index → sample_at l.values j ≡ sample_at l.samples (l.order + j) -ℤ int_shr (sample_at l.sums j) l.shift
