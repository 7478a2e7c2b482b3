use Rattle.flac_edit.proofs.SheetsBack.{come_back}
use Rattle.flac_edit.proofs.laws.cue_sheets_come_back.Goals as goal

pub returns : goal.returns
returns c = come_back c.cue_comes_back.ensures
