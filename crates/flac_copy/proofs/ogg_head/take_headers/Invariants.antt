use Rattle.std.proofs.Common.{List}
use Rattle.flac_meta.specs.declared.block.Block.{Block}
use Rattle.flac_native.specs.declared.track.Track.{Track}
use Rattle.flac_pages.specs.Packets.{Place}
use Rattle.flac_copy.specs.Heads.{TakesHeaders}
use Rattle.flac_copy.proofs.ogg_head.take_headers.Given as goal

abbrev pub invariant-reading : goal.invariant-reading
invariant-reading g l = record {
  taken : (end : Track) (q : Place) (list : List Block) → TakesHeaders l.track end l.pages q l.blocks.items list → TakesHeaders l.fn.track end l.fn.pages q l.fn.blocks.items list;
}
