use Rattle.std.proofs.Common.{rules}
use Rattle.flac_native.proofs.decoder.Decoder.over.Goals as goal

pub returns-clause-course : goal.returns-clause-course
returns-clause-course g c = search rules
