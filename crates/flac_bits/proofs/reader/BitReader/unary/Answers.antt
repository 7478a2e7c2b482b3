use Rattle.std.proofs.Common.{rules}
use Rattle.flac_bits.proofs.reader.BitReader.unary.Goals as goal

pub returns-clause-reading : goal.returns-clause-reading
returns-clause-reading g c = record {
  spends = search rules;
  counts = search rules;
  memory = search rules;
  reads = search rules;
}
