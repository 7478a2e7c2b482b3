-- Edits of the metadata of a stream in either container: native (RFC 9639, section 6), or Ogg (section 10.1).
use Rattle.std.specs.Prelude.{◌≡◌, ◌⊎◌, ℕ, Bool, true, List, [], ◌∷◌, ◌++◌, None}
use Rattle.flac_bits.specs.State.{After}
use Rattle.flac_bits.specs.declared.source.Source as source
use Rattle.flac_bits.specs.declared.target.Target as target
use Rattle.flac_bits.specs.declared.why.Why.TheVariants.{Truncated}
use Rattle.flac_info.specs.Info.{Info}
use Rattle.flac_meta.specs.declared.block.Block.{Block}
use Rattle.flac_header.specs.declared.subset.Profile.TheVariants.{Lax}
use Rattle.flac_native.specs.Stream.{Piece, Progress, marked, block, framed}
use Rattle.flac_ogg.specs.Either.{begins_page}
use Rattle.flac_copy.specs.Frames.{Copied, AreFramesOf}
use Rattle.flac_copy.specs.Heads.{blocks_in}
use Rattle.flac_copy.specs.Opened.{HasOneInfo, IsReady, parts_of}
use Rattle.flac_copy.specs.Parts.{Marked}
use Rattle.flac_copy.specs.Serials.{serial_as}
use Rattle.flac_copy.specs.Written.{StartsWith, AddsCopy}
use Rattle.flac_jobs.specs.declared.exportings.ExportPart.{ExportPart}
use Rattle.flac_jobs.specs.declared.exportings.Exporting.{Exporting}
use Rattle.flac_edit.specs.BlockEdits.{edited_blocks, block_fault}
use Rattle.flac_edit.specs.Changed.{AreAlike}
use Rattle.flac_edit.specs.Parts.{WritesPart}
use Rattle.flac_edit.specs.Tagged.{KeepComments, retagged}
use Rattle.flac_edit.specs.declared.block_edits.BlockEdits.{BlockEdits}
use Rattle.flac_edit.specs.declared.block_edits.BlockFault.{BlockFault}
use Rattle.flac_edit.specs.declared.edits.Edit.{Edit}
use Rattle.flac_edit.specs.declared.exporting_parts.Part.{Part}
use Rattle.flac_cli.specs.Calls.{HasWritten}
use Rattle.flac_cli.specs.Editing.{part_of, edit_line}
use Rattle.flac_cli.specs.Headed.{any_reading}
use Rattle.flac_cli.specs.ListedJson.{HasHeadOf, IsReasonOf}
use Rattle.flac_cli.specs.Outcomes.{input_reading}
use Rattle.flac_cli.specs.declared.edit.EditPaths.{EditPaths}

-- ---- the blocks with which an input begins

-- the metadata blocks among these parts, in their order
abbrev pub blocks_among : List Piece → List Block
blocks_among [] = []
blocks_among (marked ∷ xs) = blocks_among xs
blocks_among (block last b ∷ xs) = b ∷ blocks_among xs
blocks_among (framed f ∷ xs) = blocks_among xs

-- If the bytes of the source are known: read as a native stream or an Ogg stream, as their first byte says, they begin
-- with metadata blocks up to a last one, and this holds of these. Bytes are read in one way.
abbrev pub BeginsWithBlocks : {S : Type 0} (g : source.Ghosts S) → S → (List Block → Type 0) → Type 0
BeginsWithBlocks g from Says = g.known from ≡ true → HasHeadOf (any_reading g from) (λ head. Says (blocks_among head))

-- the edits change none of its comments
abbrev pub KeepsItsComments : {S : Type 0} (g : source.Ghosts S) → S → List Edit → Type 0
KeepsItsComments g from edits = BeginsWithBlocks g from (KeepComments edits)

-- they change its comments
abbrev pub ChangesItsComments : {S : Type 0} (g : source.Ghosts S) → S → List Edit → Type 0
ChangesItsComments g from edits = BeginsWithBlocks g from (λ list. KeepComments edits list → ⊥)

-- the edits fit these blocks, and the edited ones are written with the same bits
pub record KeepBlocks (edits : BlockEdits) (list : List Block) : Type 0 where
  pub allowed : block_fault edits list ≡ None
  pub alike : AreAlike (edited_blocks edits list) list

-- so it is of the blocks of the input
abbrev pub KeepsItsBlocks : {S : Type 0} (g : source.Ghosts S) → S → BlockEdits → Type 0
KeepsItsBlocks g from edits = BeginsWithBlocks g from (KeepBlocks edits)

-- if the bytes of the source and of the target are known, this part of the blocks was written
abbrev pub SendsItsPart : {S T : Type 0} (g : source.Ghosts S) (h : target.Ghosts T) → Part → (from : S) (old new : T) → Type 0
SendsItsPart g h p from old new = h.known old ≡ true → BeginsWithBlocks g from (λ list. WritesPart p list (h.sent old) (h.sent new))

-- the part of this name
abbrev pub ExportsItsPart : {S T : Type 0} (g : source.Ghosts S) (h : target.Ghosts T) → Exporting → ExportPart → (from : S) (old new : T) → Type 0
ExportsItsPart g h x name from old new = SendsItsPart g h (part_of x name) from old new

-- ---- a stream that is written with other blocks

-- These bytes are a stream of blocks, STREAMINFO the first, and of frames, each spelled by its own bytes. A stream of
-- blocks that are made of these, the same STREAMINFO the first, and of the same frames, byte by byte, was added, in the
-- same container, in Ogg with the serial number of the first page. In Ogg the comments come first, and there is no seek
-- table.
pub record Remakes (Makes : (list given : List Block) → Type 0) (bytes : List ℕ) (end : After) (before after : List Bool) : Type 0 where
  pub parts : List Marked
  pub info : Info
  pub first : HasOneInfo info (blocks_in parts)
  pub frames : List Copied
  pub input : (input_reading Lax bytes end).whole (parts_of (begins_page bytes) parts frames)
  pub state : Progress
  pub ready : IsReady Lax info state
  pub are : AreFramesOf Truncated state frames
  pub given : List Block
  pub made : Makes (blocks_in parts) given
  pub begins : StartsWith info given
  pub adds : AddsCopy Lax (serial_as (begins_page bytes) bytes) info given frames before after

-- the same of a source and a target, if their bytes are known
abbrev pub RemakesFrom : {S T : Type 0} (g : source.Ghosts S) (h : target.Ghosts T) → S → (Makes : (list given : List Block) → Type 0) → (old new : T) → Type 0
RemakesFrom g h from Makes old new = HasWritten g h from old new (λ bytes. Remakes Makes bytes (g.after from))

-- the blocks with the edited comments
abbrev pub AreRetagged : List Edit → (list given : List Block) → Type 0
AreRetagged edits list given = given ≡ retagged edits list

abbrev pub RetagsAlike : {S T : Type 0} (g : source.Ghosts S) (h : target.Ghosts T) → S → List Edit → (old new : T) → Type 0
RetagsAlike g h from edits old new = RemakesFrom g h from (AreRetagged edits) old new

-- the edited blocks, if the edits fit
pub record AreEdited (edits : BlockEdits) (list given : List Block) : Type 0 where
  pub allowed : block_fault edits list ≡ None
  pub edited : given ≡ edited_blocks edits list

abbrev pub EditsAlike : {S T : Type 0} (g : source.Ghosts S) (h : target.Ghosts T) → S → BlockEdits → (old new : T) → Type 0
EditsAlike g h from edits old new = RemakesFrom g h from (AreEdited edits) old new

-- ---- the lines of errors

-- the line of a reason of the stream, or of edits that do not fit its blocks
abbrev pub NamesEdits : EditPaths → (before after : List ℕ) → Type 0
NamesEdits paths before after = IsReasonOf paths.stream.now before after ⊎ ((fault : BlockFault) × (after ≡ before ++ edit_line paths fault))

-- the line of a reason of the input or of the output, or of a part that is not there
abbrev pub NamesExport : Exporting → (before after : List ℕ) → Type 0
NamesExport x before after =
    (IsReasonOf x.input.now before after ⊎ IsReasonOf x.output.now before after)
    ⊎ ((fault : BlockFault) × (after ≡ before ++ edit_line (record { stream = x.input; sheet = None }) fault))
