use Rattle.std.proofs.Common.{List}
use Rattle.std.specs.Prelude.{Ok}
use Rattle.std.specs.Bool.{⊤}
use Rattle.flac_bits.specs.Reading.{Counts}
use Rattle.flac_bits.specs.State.{State}
use Rattle.flac_meta.specs.declared.block.Block.{Block}
use Rattle.flac_native.specs.declared.track.Track.{Track}
use Rattle.flac_copy.specs.Heads.{TakesBlocks}
use Rattle.flac_copy.proofs.head.take_blocks.Given as goal

abbrev pub invariant-reading : goal.invariant-reading
invariant-reading g l = record {
  taken : (end : Track) (s : State) (list : List Block) → TakesBlocks l.track end l.reader s l.blocks.items list → TakesBlocks l.fn.track end l.fn.reader s l.fn.blocks.items list;
  counts : Counts {X = ⊤} l.fn.reader l.reader (Ok tt);
}

abbrev pub decreases-reading : goal.decreases-reading
decreases-reading g l = l.reader.most
