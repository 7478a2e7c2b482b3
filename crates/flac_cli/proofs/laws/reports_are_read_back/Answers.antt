use Rattle.flac_cli.proofs.ReportRead.{reports_are_read_back, read_files_are_same}
use Rattle.flac_cli.proofs.laws.reports_are_read_back.Goals as goal

pub returns : goal.returns
returns c = record { read = reports_are_read_back; same = read_files_are_same }
