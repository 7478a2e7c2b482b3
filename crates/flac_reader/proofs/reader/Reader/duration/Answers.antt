use Rattle.std.proofs.Common.{rules}
use Rattle.flac_reader.proofs.reader.Reader.duration.Goals as goal

pub returns-in-0 : goal.returns-in-0
returns-in-0 g c = search rules
