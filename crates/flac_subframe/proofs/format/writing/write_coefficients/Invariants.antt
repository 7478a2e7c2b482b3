use Rattle.std.proofs.Common.{drop, flat_map}
use Rattle.flac_bits.specs.Signed.{signed}
use Rattle.flac_bits.proofs.Writing.{Towards}
use Rattle.flac_subframe.proofs.format.writing.write_coefficients.Given as goal

abbrev pub invariant-loop-coefficient : goal.invariant-loop-coefficient
invariant-loop-coefficient g l = Towards (flat_map (signed l.n) (drop l.coefficient-index l.coefficients)) (flat_map (signed l.n) l.coefficients) l.initial.writer l.writer
