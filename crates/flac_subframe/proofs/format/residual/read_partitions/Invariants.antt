use Rattle.flac_subframe.proofs.lemmas.format.Parts.{PartsTo}
use Rattle.flac_subframe.specs.format.Cost.{parameter_bits_of}
use Rattle.flac_subframe.proofs.format.residual.read_partitions.Given as goal

abbrev pub invariant-loop-i : goal.invariant-loop-i
invariant-loop-i g l = PartsTo (parameter_bits_of l.method) l.order l.size l.count l.fn.bits l.bits l.out l.start l.end l.i
