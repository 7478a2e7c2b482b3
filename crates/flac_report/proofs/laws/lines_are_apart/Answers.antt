use Rattle.flac_report.proofs.Ends.{apart}
use Rattle.flac_report.proofs.laws.lines_are_apart.Goals as goal

pub returns : goal.returns
returns c = apart
