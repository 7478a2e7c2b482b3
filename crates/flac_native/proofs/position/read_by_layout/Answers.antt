use Rattle.std.proofs.Common.{rules}
use Rattle.flac_bits.proofs.Meaning.{reads}
use Rattle.flac_meta.specs.Block.{block}
use Rattle.flac_native.proofs.position.read_by_layout.Goals as goal

pub returns-clause-reading : goal.returns-clause-reading
returns-clause-reading g c = record {
  spends = search rules;
  counts = search rules;
  reads = (λ room. reads (λ x. x) (block c.args.seen.now) c.args.bits.now c.read_block.new.bits c.read_block.result (c.read_block.ensures.reading.reads room));
}
