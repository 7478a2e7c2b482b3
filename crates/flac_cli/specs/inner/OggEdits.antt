-- For proofs of edits in either container: the blocks that were read.
use Rattle.std.specs.Prelude.{◌≡◌, List, [], ◌∷◌, ◌++◌}
use Rattle.flac_bits.specs.declared.source.Source as source
use Rattle.flac_meta.specs.declared.block.Block.{Block}
use Rattle.flac_native.specs.Item.{Item, metadata, frame}
use Rattle.flac_cli.specs.OggEdits.{BeginsWithBlocks}

-- the blocks that came so far
abbrev pub blocks_after : List Block → Item → List Block
blocks_after list (metadata b) = list ++ b ∷ []
blocks_after list (frame f) = list

-- if the bytes of the source are known, they begin with these blocks
abbrev pub HasBlocks : {S : Type 0} (g : source.Ghosts S) → S → List Block → Type 0
HasBlocks g from list = BeginsWithBlocks g from (λ found. found ≡ list)
