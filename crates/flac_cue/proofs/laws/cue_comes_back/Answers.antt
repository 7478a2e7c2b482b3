use Rattle.flac_cue.proofs.SheetsAgain.{comes_back}
use Rattle.flac_cue.proofs.laws.cue_comes_back.Goals as goal

pub returns : goal.returns
returns c = comes_back
