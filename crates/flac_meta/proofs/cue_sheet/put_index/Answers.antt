use Rattle.flac_meta.specs.Spelling.{each_spelled, index_spelling}
use Rattle.flac_meta.proofs.Steps.{zeros_are}
use Rattle.flac_meta.proofs.cue_sheet.put_index.Goals as goal

pub returns : goal.returns
unfolding index_spelling each_spelled
returns g c = rw (← zeros_are 24) c.put_fields.ensures
