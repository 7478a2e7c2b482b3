use Rattle.flac_edit.proofs.Settled.{edits_settle}
use Rattle.flac_edit.proofs.laws.edits_settle.Goals as goal

pub returns : goal.returns
returns c = edits_settle
