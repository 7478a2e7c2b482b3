use Rattle.std.proofs.Common.{◌≡◌, map, take}
use Rattle.std.specs.List.{range_with_len}
use Rattle.flac_subframe.specs.format.Prediction.{fixed_coefficients}
use Rattle.flac_subframe.specs.format.Bodies.{difference}
use Rattle.flac_bits.specs.Rice.{folded}
use Rattle.flac_subframe.proofs.format.narrowed.take_narrow_order.Given as goal

abbrev pub invariant-loop-index : goal.invariant-loop-index
invariant-loop-index l = record {
  values : take l.index l.values ≡ map (difference (fixed_coefficients l.order) 0 l.samples) (range_with_len 0 l.index);
  folds : take l.index l.folds ≡ map folded (map (difference (fixed_coefficients l.order) 0 l.samples) (range_with_len 0 l.index));
}
