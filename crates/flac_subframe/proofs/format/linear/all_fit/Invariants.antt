use Rattle.std.proofs.Common.{All, take}
use Rattle.flac_bits.specs.Signed.{FitsBits}
use Rattle.flac_subframe.proofs.format.linear.all_fit.Given as goal

abbrev pub invariant-loop-coefficient : goal.invariant-loop-coefficient
invariant-loop-coefficient l = All (FitsBits l.precision) (take l.coefficient-index l.coefficients)
