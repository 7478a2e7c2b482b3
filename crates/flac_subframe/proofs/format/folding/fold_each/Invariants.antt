use Rattle.std.proofs.Common.{◌≡◌, take, map}
use Rattle.flac_bits.specs.Rice.{folded}
use Rattle.flac_subframe.proofs.format.folding.fold_each.Given as goal

abbrev pub invariant-loop-i : goal.invariant-loop-i
invariant-loop-i l = record {
  values : take l.i l.values ≡ take l.i l.wide;
  folds : take l.i l.folds ≡ map folded (take l.i l.wide);
}
