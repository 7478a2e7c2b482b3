use Rattle.std.proofs.Common.{drop, flat_map}
use Rattle.flac_bits.specs.Signed.{signed}
use Rattle.flac_bits.proofs.Writing.{Towards}
use Rattle.flac_subframe.proofs.format.writing.write_signed.Given as goal

abbrev pub invariant-loop-value : goal.invariant-loop-value
invariant-loop-value g l = Towards (flat_map (signed l.n) (drop l.value-index l.values)) (flat_map (signed l.n) l.values) l.initial.writer l.writer
