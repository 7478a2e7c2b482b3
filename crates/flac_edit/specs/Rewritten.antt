-- Edits of the blocks of a stream that are written to another file.
use Rattle.std.specs.Prelude.{◌≡◌, ◌≢◌, Bool, true, List, ◌∷◌, ◌++◌, Option, Some, None, Result, Ok, Err}
use Rattle.flac_bits.specs.Bits.{bits_of}
use Rattle.flac_bits.specs.Fencing.{lifted}
use Rattle.flac_bits.specs.State.{Mark, Cursor, State}
use Rattle.flac_bits.specs.declared.source.Source as source
use Rattle.flac_bits.specs.declared.target.Target as target
use Rattle.flac_info.specs.Info.{Info}
use Rattle.flac_meta.specs.declared.block.Block.{Block}
use Rattle.flac_meta.specs.declared.block.Block.TheVariants as block_of
use Rattle.flac_native.specs.Decoding.{source_start}
use Rattle.flac_native.specs.Retag.{BeginsWith, not_read, not_written}
use Rattle.flac_native.specs.Rewriting.{head_of}
use Rattle.flac_edit.specs.BlockEdits.{edited_blocks, block_fault}
use Rattle.flac_edit.specs.declared.block_edits.BlockEdits.{BlockEdits}
use Rattle.flac_edit.specs.declared.block_edits.BlockFault.{BlockFault}
use Rattle.flac_edit.specs.declared.rewriting_blocks.EditFault.{EditFault}
use Rattle.flac_edit.specs.declared.rewriting_blocks.EditFault.TheVariants as fault

-- After the bits that were there, the input was written with its blocks edited so, which is not refused, and the rest of
-- it as it is.
pub record RewritesBlocks (m : Mark) (text : List Bool) (edits : BlockEdits) (before after : List Bool) : Type 0 where
  pub info : Info
  pub list : List Block
  pub rest : List Bool
  pub input : BeginsWith m text info list rest
  pub allowed : block_fault edits (block_of.StreamInfo info ∷ list) ≡ None
  pub output : after ≡ before ++ (head_of (edited_blocks edits (block_of.StreamInfo info ∷ list)) ++ rest)

-- The input begins with blocks that may not be edited so, for this reason.
pub record RefusesBlocks (m : Mark) (text : List Bool) (edits : BlockEdits) (why : BlockFault) : Type 0 where
  pub info : Info
  pub list : List Block
  pub rest : List Bool
  pub input : BeginsWith m text info list rest
  pub refused : block_fault edits (block_of.StreamInfo info ∷ list) ≡ Some why

-- the same of the bits of a cursor
abbrev pub RewritesBlocksAt : Cursor → BlockEdits → (before after : List Bool) → Type 0
RewritesBlocksAt c edits before after = RewritesBlocks c.mark c.left edits before after

abbrev pub RefusesBlocksAt : Cursor → BlockEdits → BlockFault → Type 0
RefusesBlocksAt c edits why = RefusesBlocks c.mark c.left edits why

-- ---- what is sent to a target, `old` before the call and `new` after it, if its bytes are known

-- the input of a source with its blocks edited so, if its bytes are known
abbrev pub SendsBlocks : {S T : Type 0} (g : source.Ghosts S) (h : target.Ghosts T) → S → BlockEdits → (old new : T) → Type 0
SendsBlocks g h from edits old new = g.known from ≡ true → h.known old ≡ true → RewritesBlocksAt (source_start g from) edits (bits_of (h.sent old)) (bits_of (h.sent new))

-- what a reader has still to read
abbrev pub SendsBlocksFrom : {T : Type 0} (h : target.Ghosts T) → State → BlockEdits → (old new : T) → Type 0
SendsBlocksFrom h from edits old new = from.known ≡ true → h.known old ≡ true → RewritesBlocksAt (lifted from).cursor edits (bits_of (h.sent old)) (bits_of (h.sent new))

-- ---- faults

-- the input of a source may not be edited so for this reason, if its bytes are known
abbrev pub RefusesBlocksOf : {S : Type 0} (g : source.Ghosts S) → S → BlockEdits → BlockFault → Type 0
RefusesBlocksOf g from edits why = g.known from ≡ true → RefusesBlocksAt (source_start g from) edits why

-- nor what a reader has still to read
abbrev pub RefusesBlocksFrom : State → BlockEdits → BlockFault → Type 0
RefusesBlocksFrom from edits why = from.known ≡ true → RefusesBlocksAt (lifted from).cursor edits why

-- no device failed
abbrev pub IsOfNoDevice : EditFault → Type 0 → Type 0
IsOfNoDevice f Says = f ≢ fault.Stream not_read → f ≢ fault.Stream not_written → Says

-- what is claimed of the fault of edits that do not fit the blocks
abbrev pub IfRefused : (BlockFault → Type 0) → EditFault → Type 0
IfRefused P (fault.Blocks f) = P f
IfRefused P (fault.Stream f) = Unit {0}

-- it succeeds only if the blocks may be edited so, and else names why they may not
abbrev pub Judges : {X : Type 0} → Result X EditFault → Option BlockFault → Type 0
Judges (Ok x) found = found ≡ None
Judges (Err f) found = IfRefused (λ why. found ≡ Some why) f
