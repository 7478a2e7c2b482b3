-- For proofs of listing metadata blocks: blocks that are added one after another.
use Rattle.std.specs.Prelude.{◌≡◌, ℕ, ◌+◌, Bool, List, [], ◌∷◌, ◌++◌}
use Rattle.flac_bits.specs.State.{State}
use Rattle.flac_meta.specs.Spelling.{length_of}
use Rattle.flac_meta.specs.declared.block.Block.{Block}
use Rattle.flac_meta.specs.declared.block.Seen.{Seen}
use Rattle.flac_native.specs.Stream.{Piece, marked, block, framed}
use Rattle.flac_c.specs.Described.{block_at, blocks_at}
use Rattle.flac_c.specs.declared.blocks.FlacProvedBlock.{FlacProvedBlock}
use Rattle.flac_c.specs.inner.Blocks.{BlockRead}

-- a block at an offset is added to a list
abbrev pub Listed : (old new : List FlacProvedBlock) → (at : ℕ) → (last : Bool) → Block → Type 0
Listed old new at last b = new ≡ old ++ block_at at last b ∷ []

-- one block more was read, and added to the list
abbrev pub BlockListed : (seen left : Seen) → (from to : State) → (old new : List FlacProvedBlock) → (last : Bool) → Type 0
BlockListed seen left from to old new last = BlockRead seen left from to (Listed old new from.cursor.mark.bytes last) last

-- the list has the blocks of all these parts
abbrev pub ListOf : List FlacProvedBlock → List Piece → Type 0
ListOf list parts = list ≡ blocks_at 0 parts

-- how many bytes metadata has: 4 of the marker, and 4 of the header of each block
abbrev pub bytes_in : List Piece → ℕ
bytes_in [] = 0
bytes_in (marked ∷ xs) = 4 + bytes_in xs
bytes_in (block last b ∷ xs) = 4 + length_of b + bytes_in xs
bytes_in (framed f ∷ xs) = bytes_in xs
