use Rattle.flac_edit.proofs.LinesWritten.{lines_are_read}
use Rattle.flac_edit.proofs.laws.lines_are_read.Goals as goal

pub returns : goal.returns
returns c = lines_are_read
