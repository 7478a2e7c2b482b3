use Rattle.std.proofs.Common.{rules}
use Rattle.flac_bits.proofs.Meaning.{reads}
use Rattle.flac_native.specs.Stream.{layout_in}
use Rattle.flac_native.specs.Track.{stand_of, kept}
use Rattle.flac_native.specs.declared.track.Phase.TheVariants.{Blocks}
use Rattle.flac_ogg.proofs.mapping.block_by_layout.Goals as goal

pub returns-clause-reading : goal.returns-clause-reading
returns-clause-reading g c = record {
  spends = search rules;
  counts = search rules;
  reads = (λ room. reads (λ _. kept c.next_block.new.self) (layout_in Blocks (stand_of c.args.track.now)) c.args.bits.now c.next_block.new.bits c.next_block.result (c.next_block.ensures.reading.reads room));
}
