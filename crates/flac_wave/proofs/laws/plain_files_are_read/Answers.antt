use Rattle.flac_wave.proofs.PlainFiles.{format_fits, plain_is_wave, plain_made}
use Rattle.flac_wave.proofs.laws.plain_files_are_read.Goals as goal

pub returns : goal.returns
returns c = record { format = format_fits; read = plain_is_wave; made = plain_made }
