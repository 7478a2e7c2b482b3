use Rattle.flac_meta.specs.Spelling.{each_spelled, header_spelling}
use Rattle.flac_meta.proofs.block.put_header.Goals as goal

pub returns : goal.returns
unfolding header_spelling each_spelled
returns g c = rw (← c.flag-mark.ensures.value) c.put_fields.ensures
