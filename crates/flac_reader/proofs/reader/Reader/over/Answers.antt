use Rattle.std.proofs.Common.{rules}
use Rattle.flac_reader.proofs.reader.Reader.over.Goals as goal

pub returns-in-Ok-clause-head : goal.returns-in-Ok-clause-head
returns-in-Ok-clause-head g c = search rules

pub returns-in-Ok-clause-past : goal.returns-in-Ok-clause-past
returns-in-Ok-clause-past g c = search rules
