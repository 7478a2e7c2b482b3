-- A part of the metadata of a stream, written to another file.
use Rattle.std.specs.Prelude.{◌≡◌, ◌≤◌, ◌<◌, ℕ, Bool, true, List, ◌∷◌, ◌++◌, length, slice_index_or, Some, None}
use Rattle.flac_bits.specs.Bits.{bits_of}
use Rattle.flac_bits.specs.Fencing.{lifted}
use Rattle.flac_bits.specs.State.{Mark, Cursor, State}
use Rattle.flac_bits.specs.declared.source.Source as source
use Rattle.flac_bits.specs.declared.target.Target as target
use Rattle.flac_info.specs.Info.{Info}
use Rattle.flac_meta.specs.Spelling.{content_spelling}
use Rattle.flac_meta.specs.declared.cue_sheet.CueSheet.{CueSheet}
use Rattle.flac_meta.specs.declared.picture.Picture.{Picture}
use Rattle.flac_meta.specs.declared.block.Block.{Block}
use Rattle.flac_meta.specs.declared.block.Block.TheVariants as block_of
use Rattle.flac_native.specs.Decoding.{source_start}
use Rattle.flac_native.specs.Retag.{BeginsWith}
use Rattle.flac_cue.specs.Text.{cue_text}
use Rattle.flac_edit.specs.Tagged.{comments_among}
use Rattle.flac_edit.specs.Exported.{comment_lines, first_picture, first_sheet}
use Rattle.flac_edit.specs.declared.block_edits.BlockFault.{BlockFault}
use Rattle.flac_edit.specs.declared.block_edits.BlockFault.TheVariants as fault
use Rattle.flac_edit.specs.declared.exporting_parts.Part.{Part}
use Rattle.flac_edit.specs.declared.exporting_parts.Part.TheVariants as part

-- block n of a list, STREAMINFO being block 0
abbrev pub IsBlock : ℕ → List Block → Block → Type 0
IsBlock n list b = (n < length list) × (b ≡ slice_index_or list n b)

-- These bytes are that part of blocks, STREAMINFO the first: the lines of the comments, none without a comment block; the
-- data of the first picture; the text of the first cue sheet, of a file of this name; the content of a block (RFC 9639, section 8.1).
abbrev pub IsPart : Part → List Block → (bytes : List ℕ) → Type 0
IsPart part.Tags list bytes = bytes ≡ comment_lines (comments_among list).list
IsPart part.Picture list bytes = (p : Picture) × (first_picture list ≡ Some p) × (bytes ≡ p.bytes)
IsPart (part.CueSheet name) list bytes = (s : CueSheet) × (first_sheet list ≡ Some s) × (bytes ≡ cue_text name.now s)
IsPart (part.Block n) list bytes = (b : Block) × IsBlock n list b × (bits_of bytes ≡ content_spelling b)

-- The blocks have no such part: no picture, no cue sheet, or no block of this number.
abbrev pub Lacks : Part → List Block → BlockFault → Type 0
Lacks part.Tags list why = ⊥
Lacks part.Picture list why = (first_picture list ≡ None) × (why ≡ fault.NoPicture)
Lacks (part.CueSheet name) list why = (first_sheet list ≡ None) × (why ≡ fault.NoCueSheet)
Lacks (part.Block n) list why = (length list ≤ n) × (why ≡ fault.NoBlock n)

-- after the bytes that were there, that part of these blocks was written
abbrev pub WritesPart : Part → List Block → (before after : List ℕ) → Type 0
WritesPart p list before after = (bytes : List ℕ) × IsPart p list bytes × (after ≡ before ++ bytes)

-- if the bytes of a target are known, it was sent that part of these blocks
abbrev pub SendsPartOf : {T : Type 0} (h : target.Ghosts T) → List Block → Part → (old new : T) → Type 0
SendsPartOf h list p old new = h.known old ≡ true → WritesPart p list (h.sent old) (h.sent new)

-- After the bytes that were there, that part of the input was written.
pub record Exports (m : Mark) (text : List Bool) (p : Part) (before after : List ℕ) : Type 0 where
  pub info : Info
  pub list : List Block
  pub rest : List Bool
  pub input : BeginsWith m text info list rest
  pub bytes : List ℕ
  pub is_part : IsPart p (block_of.StreamInfo info ∷ list) bytes
  pub output : after ≡ before ++ bytes

-- The input begins with blocks that have no such part.
pub record LacksPart (m : Mark) (text : List Bool) (p : Part) (why : BlockFault) : Type 0 where
  pub info : Info
  pub list : List Block
  pub rest : List Bool
  pub input : BeginsWith m text info list rest
  pub lacks : Lacks p (block_of.StreamInfo info ∷ list) why

-- the same of the bits of a cursor
abbrev pub ExportsAt : Cursor → Part → (before after : List ℕ) → Type 0
ExportsAt c p before after = Exports c.mark c.left p before after

abbrev pub LacksAt : Cursor → Part → BlockFault → Type 0
LacksAt c p why = LacksPart c.mark c.left p why

-- ---- of the input of a source, if its bytes are known

abbrev pub SendsPart : {S T : Type 0} (g : source.Ghosts S) (h : target.Ghosts T) → S → Part → (old new : T) → Type 0
SendsPart g h from p old new = g.known from ≡ true → h.known old ≡ true → ExportsAt (source_start g from) p (h.sent old) (h.sent new)

abbrev pub LacksOf : {S : Type 0} (g : source.Ghosts S) → S → Part → BlockFault → Type 0
LacksOf g from p why = g.known from ≡ true → LacksAt (source_start g from) p why

-- ---- of what a reader has still to read

abbrev pub IsPartFrom : State → Part → (bytes : List ℕ) → Type 0
IsPartFrom from p bytes = from.known ≡ true → (before : List ℕ) → ExportsAt (lifted from).cursor p before (before ++ bytes)

abbrev pub LacksFrom : State → Part → BlockFault → Type 0
LacksFrom from p why = from.known ≡ true → LacksAt (lifted from).cursor p why
