use Rattle.std.proofs.Common.{rules}
use Rattle.flac_bits.proofs.Meaning.{means}
use Rattle.flac_meta.specs.Block.{block}
use Rattle.flac_meta.proofs.block.read_block.Goals as goal

pub returns-in-Ok-clause-reading : goal.returns-in-Ok-clause-reading
returns-in-Ok-clause-reading g c = record {
  spends = search rules;
  counts = search rules;
  reads = (λ room. means (λ x. x) (block c.args.seen.now) c.args.bits.now c.next_block-outcome.new.bits c.next_block-outcome.result (c.next_block-outcome.ensures.reading.reads room));
}

pub returns-in_default-clause-reading : goal.returns-in_default-clause-reading
returns-in_default-clause-reading g c = record {
  spends = search rules;
  counts = search rules;
  reads = (λ room. means (λ x. x) (block c.args.seen.now) c.args.bits.now c.next_block-outcome.new.bits c.next_block-outcome.result (c.next_block-outcome.ensures.reading.reads room));
}
