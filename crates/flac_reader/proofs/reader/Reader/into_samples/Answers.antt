use Rattle.std.proofs.Common.{rules}
use Rattle.flac_reader.proofs.reader.Reader.into_samples.Goals as goal

pub returns-clause-reader : goal.returns-clause-reader
returns-clause-reader g c = search rules

pub returns-clause-come : goal.returns-clause-come
returns-clause-come g c = search rules
