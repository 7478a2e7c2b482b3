use Rattle.std.proofs.Common.{◌≡◌, map, take}
use Rattle.std.specs.List.{range_with_len}
use Rattle.flac_subframe.specs.format.Bodies.{difference}
use Rattle.flac_subframe.proofs.format.leaving.take_linear.Given as goal

abbrev pub invariant-loop-index : goal.invariant-loop-index
invariant-loop-index l = take l.index l.values ≡ map (difference l.coefficients l.shift l.samples) (range_with_len 0 l.index)
