use Rattle.std.proofs.Common.{◌≡◌, ◌≤◌, ◌+◌, ◌-◌, ◌*◌, take}
use Rattle.std.specs.Int.Count.{count_leading_zeros}
use Rattle.std.specs.List.{sum_by}
use Rattle.flac_subframe.proofs.search.pruning.digits.Given as goal

abbrev pub invariant-loop-number : goal.invariant-loop-number
invariant-loop-number l = (l.sum ≡ sum_by (λ n. 63 - count_leading_zeros 64 (2 * n + 1)) (take l.number-index l.folds)) × (l.sum ≤ 64 * l.number-index)
