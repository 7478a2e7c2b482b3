use Rattle.std.proofs.Common.{drop}
use Rattle.flac_bits.proofs.Writing.{Towards}
use Rattle.flac_meta.specs.Spelling.{each_spelled}
use Rattle.flac_meta.specs.inner.Fielded.{field_spelling}
use Rattle.flac_meta.proofs.put.put_fields.Given as goal

abbrev pub invariant-loop-field : goal.invariant-loop-field
invariant-loop-field g l = Towards (each_spelled field_spelling (drop l.field-index l.fields)) (each_spelled field_spelling l.fields) l.initial.writer l.writer
