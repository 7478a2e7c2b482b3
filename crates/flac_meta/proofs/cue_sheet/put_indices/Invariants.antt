use Rattle.std.proofs.Common.{drop}
use Rattle.flac_bits.proofs.Writing.{Towards}
use Rattle.flac_meta.specs.Spelling as s
use Rattle.flac_meta.proofs.cue_sheet.put_indices.Given as goal

abbrev pub invariant-loop-index : goal.invariant-loop-index
invariant-loop-index g l = Towards (s.each_spelled s.index_spelling (drop l.index-index l.indices)) (s.each_spelled s.index_spelling l.indices) l.initial.writer l.writer
