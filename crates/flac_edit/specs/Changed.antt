-- Edits that change nothing of the metadata blocks of a stream.
use Rattle.std.specs.Prelude.{◌≡◌, Bool, true, false, List, ◌∷◌, None, map}
use Rattle.flac_bits.specs.Fencing.{lifted}
use Rattle.flac_bits.specs.State.{Mark, Cursor, State}
use Rattle.flac_bits.specs.declared.source.Source as source
use Rattle.flac_info.specs.Info.{Info}
use Rattle.flac_meta.specs.Spelling.{block_spelling}
use Rattle.flac_meta.specs.declared.block.Block.{Block}
use Rattle.flac_meta.specs.declared.block.Block.TheVariants as block_of
use Rattle.flac_native.specs.Decoding.{source_start}
use Rattle.flac_native.specs.Retag.{BeginsWith}
use Rattle.flac_edit.specs.BlockEdits.{edited_blocks, block_fault}
use Rattle.flac_edit.specs.declared.block_edits.BlockEdits.{BlockEdits}

-- Blocks are written with the same bits, one by one (RFC 9639, section 8).
abbrev pub AreAlike : (ones others : List Block) → Type 0
AreAlike ones others = map (block_spelling false) ones ≡ map (block_spelling false) others

-- The edits are not refused, and the edited blocks are written with the bits of those that the input begins with.
pub record KeepsBlocks (m : Mark) (text : List Bool) (edits : BlockEdits) : Type 0 where
  pub info : Info
  pub list : List Block
  pub rest : List Bool
  pub input : BeginsWith m text info list rest
  pub allowed : block_fault edits (block_of.StreamInfo info ∷ list) ≡ None
  pub alike : AreAlike (edited_blocks edits (block_of.StreamInfo info ∷ list)) (block_of.StreamInfo info ∷ list)

-- the same of the bits of a cursor
abbrev pub KeepsBlocksAt : Cursor → BlockEdits → Type 0
KeepsBlocksAt c edits = KeepsBlocks c.mark c.left edits

-- the input of a source, if its bytes are known
abbrev pub KeepsBlocksOf : {S : Type 0} (g : source.Ghosts S) → S → BlockEdits → Type 0
KeepsBlocksOf g from edits = g.known from ≡ true → KeepsBlocksAt (source_start g from) edits

-- what a reader has still to read
abbrev pub KeepsBlocksFrom : State → BlockEdits → Type 0
KeepsBlocksFrom from edits = from.known ≡ true → KeepsBlocksAt (lifted from).cursor edits
