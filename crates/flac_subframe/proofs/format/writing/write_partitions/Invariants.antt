use Rattle.std.proofs.Common.{drop, flat_map, map}
use Rattle.flac_subframe.specs.format.Bodies.{cut}
use Rattle.flac_subframe.specs.format.Cost.{coding_of, parameter_bits_of}
use Rattle.flac_subframe.specs.format.Spelling.{partition_spelling}
use Rattle.flac_subframe.proofs.lemmas.format.WriteSteps.{WritingTo}
use Rattle.flac_subframe.proofs.format.writing.write_partitions.Given as goal

abbrev pub invariant-loop-byte : goal.invariant-loop-byte
invariant-loop-byte g l = WritingTo (parameter_bits_of l.method) l.size (flat_map (partition_spelling (parameter_bits_of l.method)) (cut l.first l.size l.values (map coding_of l.codings))) l.fn.writer l.writer l.long l.rest (drop l.byte-index (map coding_of l.codings))
