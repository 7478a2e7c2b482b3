use Rattle.std.proofs.Common.{rules}
use Rattle.flac_bits.proofs.reader.BitReader.into_source.Goals as goal

pub returns-clause-known : goal.returns-clause-known
returns-clause-known g c = search rules

pub returns-clause-told : goal.returns-clause-told
returns-clause-told g c = search rules

pub returns-clause-errors : goal.returns-clause-errors
returns-clause-errors g c = search rules

pub returns-clause-raised : goal.returns-clause-raised
returns-clause-raised g c = search rules

pub returns-clause-after : goal.returns-clause-after
returns-clause-after g c = search rules

pub returns-clause-most : goal.returns-clause-most
returns-clause-most g c = search rules
