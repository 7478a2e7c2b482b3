use Rattle.flac_report.proofs.Cuts.{cut}
use Rattle.flac_report.proofs.laws.cut_reports_are_read.Goals as goal

pub returns : goal.returns
returns c = cut
