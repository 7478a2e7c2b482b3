-- A reader of raw samples, a block at a time.
use Rattle.std.specs.Prelude.{◌*◌, ℕ, ℤ, List, length}
use Rattle.flac_bits.specs.declared.source.Source as source
use Rattle.flac_raw.specs.Reading.{TakesLists, samples_in}
use Rattle.flac_raw.specs.declared.blocks.RawBlocks.{RawBlocks}

-- how many channels there are, and how many bytes an inter-channel sample has
abbrev pub channels_of : RawBlocks → ℕ
channels_of b = length b.lists.items

abbrev pub row_of : RawBlocks → ℕ
row_of b = length b.lists.items * b.width

-- the samples of the block that it holds, channel by channel
abbrev pub block_of : RawBlocks → List (List ℤ)
block_of b = samples_in b.lists.items

-- It took the next `rows` inter-channel samples from a source, `old` before it and `new` after it, and holds them.
abbrev pub TakesBlock : {S : Type 0} (g : source.Ghosts S) (rows : ℕ) (old new : S) (before after : RawBlocks) → Type 0
TakesBlock g rows old new before after = TakesLists g before.width rows old new before.lists.items after.lists.items
