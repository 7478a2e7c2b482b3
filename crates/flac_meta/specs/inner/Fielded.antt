-- For proofs of writing: fields that are written one after another.
use Rattle.std.specs.Prelude.{Bool, List}
use Rattle.flac_bits.specs.Bits.{unsigned}
use Rattle.flac_meta.specs.Spelling.{each_spelled}
use Rattle.flac_meta.specs.declared.fields.Field.{Field}

abbrev pub field_spelling : Field → List Bool
field_spelling field = unsigned field.bits field.value

abbrev pub fields_spelling : List Field → List Bool
fields_spelling fields = each_spelled field_spelling fields
