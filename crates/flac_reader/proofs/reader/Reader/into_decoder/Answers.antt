use Rattle.std.proofs.Common.{rules}
use Rattle.flac_reader.proofs.reader.Reader.into_decoder.Goals as goal

pub returns : goal.returns
returns g c = search rules
