use Rattle.std.proofs.Common.{◌≡◌, ◌≤◌, ◌*◌, ◌/◌, ◌^◌, take}
use Rattle.std.specs.List.{sum_by}
use Rattle.flac_subframe.proofs.search.cost.quotients_of_any.Given as goal

abbrev pub invariant-loop-number : goal.invariant-loop-number
invariant-loop-number l = (l.sum ≡ sum_by (λ n. n / 2 ^ l.parameter) (take l.number-index l.folds)) × (l.sum ≤ 2 ^ 32 * l.number-index)
