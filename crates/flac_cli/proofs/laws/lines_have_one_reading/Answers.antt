use Rattle.flac_cli.proofs.OneReading.{lines_have_one_reading}
use Rattle.flac_cli.proofs.laws.lines_have_one_reading.Goals as goal

pub returns : goal.returns
returns c = lines_have_one_reading
