use Rattle.std.proofs.Common.{rules}
use Rattle.flac_bits.proofs.reader.BitReader.take.Goals as goal

pub returns-clause-small : goal.returns-clause-small
returns-clause-small g c = search rules

pub returns-clause-reading : goal.returns-clause-reading
returns-clause-reading g c = record {
  spends = search rules;
  counts = search rules;
  memory = search rules;
  reads = search rules;
}
