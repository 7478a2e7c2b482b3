use Rattle.std.proofs.Common.{rules}
use Rattle.flac_reader.proofs.reader.Reader.before_frame.Goals as goal

pub returns-clause-ahead : goal.returns-clause-ahead
returns-clause-ahead g c = search rules
