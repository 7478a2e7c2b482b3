use Rattle.flac_cli.proofs.ReadKept.{kept_files_come_back}
use Rattle.flac_cli.proofs.laws.kept_files_come_back.Goals as goal

pub returns : goal.returns
returns c = kept_files_come_back
