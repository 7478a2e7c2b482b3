use Rattle.std.proofs.Common.{rules}
use Rattle.flac_bits.specs.Number.{number}
use Rattle.flac_bits.proofs.Meaning.{means}
use Rattle.flac_bits.proofs.number.read_number.Goals as goal

pub returns-clause-reading : goal.returns-clause-reading
returns-clause-reading g c = record {
  spends = search rules;
  counts = search rules;
  memory = search rules;
  reads = means (λ v. v) (number c.args.max_bits) c.args.bits.now c.number_by_layout.new.bits c.number_by_layout.result c.number_by_layout.ensures.reading.reads;
}

pub returns-clause-needed : goal.returns-clause-needed
returns-clause-needed g c = c.number_by_layout.ensures.needed
