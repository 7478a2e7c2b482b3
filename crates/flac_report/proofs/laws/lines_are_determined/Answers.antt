use Rattle.flac_report.proofs.Again.{determined}
use Rattle.flac_report.proofs.laws.lines_are_determined.Goals as goal

pub returns : goal.returns
returns c = determined
