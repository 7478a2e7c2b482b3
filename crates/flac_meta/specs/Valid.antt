-- Which blocks there are, and which bits spell them (RFC 9639, section 8).
use Rattle.std.specs.Prelude.{◌≡◌, ℕ, ◌*◌, ◌<◌, ◌^◌, Bool, false, List, [], ◌∷◌, ◌++◌, None, Ok, ◌↔◌}
use Rattle.flac_bits.specs.Bits.{unsigned}
use Rattle.flac_bits.specs.State.{Mark, past}
use Rattle.flac_bits.specs.Layout.{run}
use Rattle.flac_bits.specs.Meaning.{Spells}
use Rattle.flac_bits.specs.Forms.{joined, AreBytes, IsBytes}
use Rattle.flac_info.specs.Info.{Info, KeepsRules}
use Rattle.flac_meta.specs.Block.{block}
use Rattle.flac_meta.specs.Spelling.{content_spelling, header_spelling, block_spelling, kind_of, length_of}
use Rattle.flac_meta.specs.Listed.{came, block_fault}
use Rattle.flac_meta.specs.declared.block.Seen.{Seen}
use Rattle.flac_meta.specs.declared.seek_table.SeekPoint.{SeekPoint}
use Rattle.flac_meta.specs.declared.comments.Comments.{Comments}
use Rattle.flac_meta.specs.declared.cue_sheet.CueIndex.{CueIndex}
use Rattle.flac_meta.specs.declared.cue_sheet.CueTrack.{CueTrack}
use Rattle.flac_meta.specs.declared.cue_sheet.CueSheet.{CueSheet}
use Rattle.flac_meta.specs.declared.picture.Picture.{Picture}
use Rattle.flac_meta.specs.declared.block.Block.{Block}
use Rattle.flac_meta.specs.declared.block.Block.TheVariants as block_of

-- each item has this property
abbrev pub AllAre : {A : Type 0} → (A → Type 0) → List A → Type 0
AllAre P [] = Unit {0}
AllAre P (x ∷ xs) = P x × AllAre P xs

-- ---- each number fits its field, and each field of bytes has its length: every value has this by its type

pub record IsInfo (i : Info) : Type 0 where
  pub rules : KeepsRules i
  pub digest : IsBytes 16 i.digest

pub record IsPoint (p : SeekPoint) : Type 0 where
  pub sample : p.sample < 2 ^ 64
  pub offset : p.offset < 2 ^ 64
  pub size : p.length < 2 ^ 16

pub record IsComments (c : Comments) : Type 0 where
  pub vendor : AreBytes c.vendor
  pub list : AllAre AreBytes c.list

pub record IsIndex (i : CueIndex) : Type 0 where
  pub offset : i.offset < 2 ^ 64
  pub number : i.number < 2 ^ 8

pub record IsTrack (t : CueTrack) : Type 0 where
  pub offset : t.offset < 2 ^ 64
  pub number : t.number < 2 ^ 8
  pub isrc : IsBytes 12 t.isrc
  pub indices : AllAre IsIndex t.indices

pub record IsSheet (s : CueSheet) : Type 0 where
  pub catalogue : IsBytes 128 s.catalogue
  pub lead_in : s.lead_in < 2 ^ 64
  pub tracks : AllAre IsTrack s.tracks

pub record IsPicture (p : Picture) : Type 0 where
  pub kind : p.kind < 2 ^ 32
  pub media : AreBytes p.media
  pub text : AreBytes p.text
  pub width : p.width < 2 ^ 32
  pub height : p.height < 2 ^ 32
  pub depth : p.depth < 2 ^ 32
  pub colours : p.colours < 2 ^ 32
  pub bytes : AreBytes p.bytes

abbrev pub FitsFields : Block → Type 0
FitsFields (block_of.StreamInfo info) = IsInfo info
FitsFields (block_of.Padding n) = Unit {0}
FitsFields (block_of.Application id bytes) = IsBytes 4 id × AreBytes bytes
FitsFields (block_of.SeekTable points) = AllAre IsPoint points
FitsFields (block_of.VorbisComment found) = IsComments found
FitsFields (block_of.CueSheet sheet) = IsSheet sheet
FitsFields (block_of.Picture found) = IsPicture found
FitsFields (block_of.Other kind bytes) = AreBytes bytes

-- A block that may follow these kinds: STREAMINFO is the first block and no other one, a seek table and a Vorbis
-- comment occur once at most, and the block may be written.
pub record IsBlock (seen : Seen) (b : Block) : Type 0 where
  pub first : seen.stream_info ≡ false → kind_of b ≡ 0
  pub once : came seen b ≡ false
  pub written : block_fault b ≡ None
  pub fits : FitsFields b

-- the bits of a block's content; the bytes of padding may have any value (section 8.3)
abbrev pub ContentSpelled : Block → List Bool → Type 0
ContentSpelled (block_of.Padding n) text = (v : ℕ) × (v < 2 ^ (8 * n)) × (text ≡ unsigned (8 * n) v)
ContentSpelled b text = text ≡ content_spelling b

abbrev pub BlockSpelled : Bool → Block → List Bool → Type 0
BlockSpelled last b text = (content : List Bool) × ContentSpelled b content × (text ≡ joined (header_spelling last (kind_of b) (length_of b) ∷ content ∷ []))

-- bits spell exactly the blocks that may follow these kinds
abbrev pub BlocksAreSpelled : Type 0
BlocksAreSpelled = (seen : Seen) (m : Mark) (text : List Bool) (last : Bool) (b : Block) → Spells (block seen) m text (last, b) ↔ (IsBlock seen b × BlockSpelled last b text)

-- what is written is read again, whatever follows
abbrev pub BlocksAreReadAgain : Type 0
BlocksAreReadAgain = (seen : Seen) (m : Mark) (rest : List Bool) (last : Bool) (b : Block) → IsBlock seen b
    → run (block seen) (record { left = block_spelling last b ++ rest; mark = m }) ≡ Ok ((last, b), record { left = rest; mark = past (block_spelling last b) m })
