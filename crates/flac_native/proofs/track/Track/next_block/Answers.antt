use Rattle.std.proofs.Common.{rules}
use Rattle.flac_bits.proofs.Meaning.{means}
use Rattle.flac_native.specs.Stream.{layout_in}
use Rattle.flac_native.specs.Track.{stand_of, kept}
use Rattle.flac_native.specs.declared.track.Phase.TheVariants.{Blocks}
use Rattle.flac_native.proofs.track.Track.next_block.Goals as goal

pub returns-clause-reading : goal.returns-clause-reading
returns-clause-reading g c = record {
  spends = search rules;
  counts = search rules;
  reads = (λ room. means (λ _. kept c.next_block_by_layout.new.self) (layout_in Blocks (stand_of c.args.self.now)) c.args.bits.now c.next_block_by_layout.new.bits c.next_block_by_layout.result (c.next_block_by_layout.ensures.reading.reads room));
}
