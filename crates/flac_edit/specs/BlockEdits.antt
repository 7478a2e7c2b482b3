-- Edits of the metadata blocks of a stream (RFC 9639, section 8).
use Rattle.std.specs.Prelude.{ℕ, ◌+◌, ◌%◌, Bool, true, false, not, ◌&&◌, ◌||◌, cond, nat_eq, nat_lt, nat_le, List, [], ◌∷◌, ◌++◌, length, take, drop, map, Option, Some, None, is_some, unwrap_or, Result, Ok, Err, option_map}
use Rattle.std.specs.Str.{bytes_eq}
use Rattle.flac_meta.specs.Spelling.{kind_of}
use Rattle.flac_info.specs.Info.{Info}
use Rattle.flac_meta.specs.declared.cue_sheet.CueSheet.{CueSheet}
use Rattle.flac_meta.specs.declared.picture.Picture.{Picture}
use Rattle.flac_meta.specs.declared.seek_table.SeekPoint.{SeekPoint}
use Rattle.flac_meta.specs.declared.block.Block.{Block}
use Rattle.flac_meta.specs.declared.block.Block.TheVariants as block_of
use Rattle.flac_cue.specs.Reading.{sheet_in}
use Rattle.flac_cue.specs.declared.audio.CueAudio.{CueAudio}
use Rattle.flac_cue.specs.declared.fault.CueWhy.{CueWhy}
use Rattle.flac_edit.specs.declared.block_edits.Removal.{Removal}
use Rattle.flac_edit.specs.declared.block_edits.Removal.TheVariants as removal
use Rattle.flac_edit.specs.declared.block_edits.BlockEdits.{BlockEdits}
use Rattle.flac_edit.specs.declared.block_edits.BlockFault.{BlockFault}
use Rattle.flac_edit.specs.declared.block_edits.BlockFault.TheVariants as fault

-- ---- which blocks are removed

abbrev pub is_info : Block → Bool
is_info (block_of.StreamInfo info) = true
is_info b = false

abbrev pub is_padding : Block → Bool
is_padding (block_of.Padding n) = true
is_padding b = false

abbrev pub is_sheet : Block → Bool
is_sheet (block_of.CueSheet s) = true
is_sheet b = false

abbrev pub is_table : Block → Bool
is_table (block_of.SeekTable points) = true
is_table b = false

abbrev pub is_application : (id : List ℕ) → Block → Bool
is_application id (block_of.Application other bytes) = bytes_eq other id
is_application id b = false

-- a removal means the block of this number: by it, by the type (section 8.1), or by the application (section 8.4)
abbrev pub is_meant : Removal → (number : ℕ) → Block → Bool
is_meant (removal.Number n) number b = nat_eq n number
is_meant (removal.Kind kind) number b = nat_eq kind (kind_of b)
is_meant (removal.Application id) number b = is_application id b

abbrev pub is_named : List Removal → (number : ℕ) → Block → Bool
is_named [] number b = false
is_named (r ∷ rs) number b = is_meant r number b || is_named rs number b

-- STREAMINFO stays. Padding goes if there is to be other padding, and so do cue sheets and seek tables.
abbrev pub is_removed : BlockEdits → (number : ℕ) → Block → Bool
is_removed e number b = not (is_info b) && ((is_some e.padding && is_padding b) || ((is_some e.cue && is_sheet b) || ((is_some e.points && is_table b) || is_named e.removals.now number b)))

-- a block that stays as a list of one, and one that is removed as the empty list
abbrev pub left_of : BlockEdits → (number : ℕ) → Block → List Block
left_of e number b = cond (not (is_removed e number b)) (b ∷ []) []

-- the blocks that stay, in their order; the first of these has the number
abbrev pub remaining : BlockEdits → (number : ℕ) → List Block → List Block
remaining e number [] = []
remaining e number (b ∷ bs) = left_of e number b ++ remaining e (number + 1) bs

-- ---- the new cue sheet (section 8.7)

-- audio of a CD: its rate, depth and channels, and a whole number of frames of 588 samples
abbrev pub is_cd : Info → Bool
is_cd i = (nat_eq i.rate 44100 && nat_eq i.depth 16) && (nat_le i.channels 2 && nat_eq (i.total % 588) 0)

-- the audio that STREAMINFO says; none if the number of samples is unknown, 0
abbrev pub audio_in : Info → Option CueAudio
audio_in i = cond (nat_eq i.total 0) None (Some (record { total = i.total; rate = i.rate; cd = is_cd i }))

-- STREAMINFO is the first block
abbrev pub audio_of : List Block → Option CueAudio
audio_of [] = None
audio_of (block_of.StreamInfo i ∷ bs) = audio_in i
audio_of (b ∷ bs) = None

abbrev pub cue_line : ℕ × CueWhy → BlockFault
cue_line p = fault.CueLine p.0 p.1

-- the sheet that a text says of this audio, or why it says none
abbrev pub sheet_for : Option CueAudio → (text : List ℕ) → Result CueSheet BlockFault
sheet_for None text = Err fault.NoTotal
sheet_for (Some a) text = elim (sheet_in a text) [ Err p ↦ Err (cue_line p) | Ok s ↦ Ok s ]

-- the sheet of edits that have a text
abbrev pub new_sheet : BlockEdits → List Block → Result (Option CueSheet) BlockFault
new_sheet e list = elim e.cue [ None ↦ Ok None | Some text ↦ elim (sheet_for (audio_of list) text.now) [ Err f ↦ Err f | Ok s ↦ Ok (Some s) ] ]

-- ---- what is added

-- comments or padding
abbrev pub is_tail : Block → Bool
is_tail (block_of.Padding n) = true
is_tail (block_of.VorbisComment found) = true
is_tail b = false

-- how many blocks come before the first comments or padding
abbrev pub front_len : List Block → ℕ
front_len [] = 0
front_len (b ∷ bs) = cond (is_tail b) 0 (1 + front_len bs)

abbrev pub picture_block : Picture → Block
picture_block p = block_of.Picture p

abbrev pub sheet_blocks : Option CueSheet → List Block
sheet_blocks None = []
sheet_blocks (Some s) = block_of.CueSheet s ∷ []

-- the seek table of these points, if there are some (section 8.5)
abbrev pub table_blocks : List SeekPoint → List Block
table_blocks [] = []
table_blocks (x ∷ xs) = block_of.SeekTable (x ∷ xs) ∷ []

abbrev pub point_blocks : Option (List SeekPoint) → List Block
point_blocks None = []
point_blocks (Some points) = table_blocks points

-- the new seek table and the sheet, if there are any, and the new pictures
abbrev pub new_blocks : BlockEdits → Option CueSheet → List Block
new_blocks e sheet = point_blocks (option_map (λ p. p.now) e.points) ++ (sheet_blocks sheet ++ map picture_block e.pictures.now)

-- new blocks come before the comments and the padding
abbrev pub with_new : (new list : List Block) → List Block
with_new new list = take (front_len list) list ++ (new ++ drop (front_len list) list)

-- padding of n bytes; no block if that is none
abbrev pub padding_of : ℕ → List Block
padding_of n = cond (nat_eq n 0) [] (block_of.Padding n ∷ [])

-- STREAMINFO and the other blocks that stay, the new seek table, cue sheet and pictures before the comments and the
-- padding, the new padding last
abbrev pub arranged : BlockEdits → Option CueSheet → List Block → List Block
arranged e sheet list =
    with_new (new_blocks e sheet) (remaining e 0 list) ++ padding_of (unwrap_or e.padding 0)

unfoldable pub edited_blocks : BlockEdits → List Block → List Block
edited_blocks e list = arranged e (elim (new_sheet e list) [ Err f ↦ None | Ok sheet ↦ sheet ]) list

-- ---- what is refused

abbrev pub or_else : Option BlockFault → Option BlockFault → Option BlockFault
or_else None other = other
or_else (Some f) other = Some f

-- among so many blocks there is none of this number, or it is STREAMINFO, block 0, which cannot be removed
abbrev pub removal_fault : (count : ℕ) → Removal → Option BlockFault
removal_fault count (removal.Number n) = cond (nat_lt 0 n && nat_lt n count) None (Some (fault.NoBlock n))
removal_fault count r = None

-- the first removal that is refused so
abbrev pub missing : (count : ℕ) → List Removal → Option BlockFault
missing count [] = None
missing count (r ∷ rs) = or_else (removal_fault count r) (missing count rs)

-- one of the pictures has this type (section 8.8)
abbrev pub adds : (kind : ℕ) → List Picture → Bool
adds kind [] = false
adds kind (p ∷ ps) = nat_eq p.kind kind || adds kind ps

abbrev pub is_picture : (kind : ℕ) → Block → Bool
is_picture kind (block_of.Picture p) = nat_eq p.kind kind
is_picture kind b = false

-- how many pictures have this type
abbrev pub count_of : (kind : ℕ) → List Block → ℕ
count_of kind [] = 0
count_of kind (b ∷ bs) = cond (is_picture kind b) (1 + count_of kind bs) (count_of kind bs)

-- a picture of this type is added, and there would be two
abbrev pub second : BlockEdits → (kind : ℕ) (news : List Block) → Option BlockFault
second e kind news = cond (adds kind e.pictures.now && nat_lt 1 (count_of kind news)) (Some (fault.SecondPicture kind)) None

-- There is at most one picture of type 1 and at most one of type 2 (section 8.8).
abbrev pub pictures_fault : BlockEdits → (news : List Block) → Option BlockFault
pictures_fault e news = or_else (second e 1 news) (second e 2 news)

-- the text is no cue sheet of the stream
abbrev pub cue_fault : Result (Option CueSheet) BlockFault → Option BlockFault
cue_fault (Err f) = Some f
cue_fault (Ok sheet) = None

-- why the blocks of a stream, STREAMINFO the first, are not edited so, if they are not
abbrev pub block_fault : BlockEdits → List Block → Option BlockFault
block_fault e list =
    or_else (missing (length list) e.removals.now) (or_else (cue_fault (new_sheet e list)) (pictures_fault e (edited_blocks e list)))
