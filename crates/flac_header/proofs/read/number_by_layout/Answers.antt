use Rattle.std.proofs.Common.{rules}
use Rattle.flac_bits.specs.Number.{number}
use Rattle.flac_bits.proofs.Meaning.{reads}
use Rattle.flac_header.proofs.read.number_by_layout.Goals as goal

pub returns-clause-reading : goal.returns-clause-reading
returns-clause-reading g c = record {
  spends = search rules;
  counts = search rules;
  memory = search rules;
  reads = reads (λ v. v) (number c.args.max_bits) c.args.bits.now c.read_number.new.bits c.read_number.result c.read_number.ensures.reading.reads;
}
