use Rattle.std.proofs.Common.{rules}
use Rattle.flac_bits.proofs.Meaning.{means}
use Rattle.flac_meta.specs.Block.{block}
use Rattle.flac_native.specs.Track.{stand_of}
use Rattle.flac_native.proofs.track.Track.block.Goals as goal

pub returns-clause-reading : goal.returns-clause-reading
returns-clause-reading g c = record {
  spends = search rules;
  counts = search rules;
  reads = (λ room. means (λ x. x) (block (stand_of c.args.self.now).seen) c.args.bits.now c.block_by_layout.new.bits c.block_by_layout.result (c.block_by_layout.ensures.reading.reads room));
}
