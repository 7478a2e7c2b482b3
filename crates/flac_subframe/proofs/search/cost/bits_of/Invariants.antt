use Rattle.std.proofs.Common.{◌<◌, ◌^◌, ◌↔◌, ℕ, take, All}
use Rattle.flac_subframe.proofs.search.cost.bits_of.Given as goal

abbrev pub invariant-loop-number : goal.invariant-loop-number
invariant-loop-number l = (n : ℕ) → (All (λ k. k < 2 ^ n) (take l.number-index l.folds) ↔ (l.bits < 2 ^ n))
