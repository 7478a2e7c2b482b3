use Rattle.std.proofs.Common.{◌≡◌, ◌≤◌, ◌*◌, ◌^◌, take}
use Rattle.std.specs.Int.RustNames.{unsigned_abs}
use Rattle.std.specs.List.{sum_by}
use Rattle.flac_subframe.proofs.format.products.are_small.Given as goal

abbrev pub invariant-loop-coefficient : goal.invariant-loop-coefficient
invariant-loop-coefficient l = record {
  sum : l.sum ≡ sum_by unsigned_abs (take l.coefficient-index l.coefficients);
  small : l.sum ≤ 2 ^ 14 * l.coefficient-index;
}
