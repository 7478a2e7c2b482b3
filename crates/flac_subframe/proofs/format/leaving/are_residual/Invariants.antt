use Rattle.std.proofs.Common.{take, All, ◌↔◌}
use Rattle.std.specs.Prelude.{IsTrue}
use Rattle.flac_bits.specs.Rice.{IsResidual}
use Rattle.flac_subframe.proofs.format.leaving.are_residual.Given as goal

abbrev pub invariant-loop-value : goal.invariant-loop-value
invariant-loop-value l = IsTrue l.all ↔ All IsResidual (take l.value-index l.values)
