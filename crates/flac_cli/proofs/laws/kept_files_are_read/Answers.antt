use Rattle.flac_cli.proofs.ReadKept.{kept_files_are_read, kept_files_are_decoded}
use Rattle.flac_cli.proofs.laws.kept_files_are_read.Goals as goal

pub returns : goal.returns
returns c = record { read = kept_files_are_read; decoded = kept_files_are_decoded }
