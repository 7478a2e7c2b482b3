-- How blocks are spelled (RFC 9639, section 8).
use Rattle.std.specs.Prelude.{ℕ, ◌+◌, ◌-◌, ◌*◌, Bool, false, replicate, List, [], ◌∷◌, ◌++◌, length, not}
use Rattle.flac_bits.specs.Bits.{unsigned, bits_of, bit_value}
use Rattle.flac_bits.specs.Forms.{joined}
use Rattle.flac_bits.specs.LittleEndian.{little_bits}
use Rattle.flac_info.specs.Info.{Info}
use Rattle.flac_meta.specs.declared.seek_table.SeekPoint.{SeekPoint}
use Rattle.flac_meta.specs.declared.comments.Comments.{Comments}
use Rattle.flac_meta.specs.declared.cue_sheet.CueIndex.{CueIndex}
use Rattle.flac_meta.specs.declared.cue_sheet.CueTrack.{CueTrack}
use Rattle.flac_meta.specs.declared.cue_sheet.CueSheet.{CueSheet}
use Rattle.flac_meta.specs.declared.picture.Picture.{Picture}
use Rattle.flac_meta.specs.declared.block.Block.{Block}
use Rattle.flac_meta.specs.declared.block.Block.TheVariants as block_of

-- n zeros
unfoldable pub zero_bits : ℕ → List Bool
zero_bits n = replicate n false

-- bytes after their number, which is little-endian here, and big-endian in `sized_bits`
unfoldable pub little_sized : List ℕ → List Bool
little_sized text = joined (little_bits (length text) ∷ bits_of text ∷ [])

unfoldable pub sized_bits : List ℕ → List Bool
sized_bits text = joined (unsigned 32 (length text) ∷ bits_of text ∷ [])

-- the spellings of all items, one after another
unfoldable pub each_spelled : {A : Type 0} → (A → List Bool) → List A → List Bool
each_spelled spelling [] = []
each_spelled spelling (x ∷ xs) = spelling x ++ each_spelled spelling xs

-- STREAMINFO (section 8.2)
unfoldable pub info_spelling : Info → List Bool
info_spelling i = joined (
    unsigned 16 i.least_block ∷ unsigned 16 i.greatest_block ∷ unsigned 24 i.least_frame ∷ unsigned 24 i.greatest_frame ∷
    unsigned 20 i.rate ∷ unsigned 3 (i.channels - 1) ∷ unsigned 5 (i.depth - 1) ∷ unsigned 36 i.total ∷ bits_of i.digest ∷ [])

-- a seek point (section 8.5.1)
unfoldable pub point_spelling : SeekPoint → List Bool
point_spelling p = joined (unsigned 64 p.sample ∷ unsigned 64 p.offset ∷ unsigned 16 p.length ∷ [])

-- a Vorbis comment (section 8.6)
unfoldable pub comments_spelling : Comments → List Bool
comments_spelling c = joined (little_sized c.vendor ∷ little_bits (length c.list) ∷ each_spelled little_sized c.list ∷ [])

-- an index point of a track (section 8.7.1.1)
unfoldable pub index_spelling : CueIndex → List Bool
index_spelling i = joined (unsigned 64 i.offset ∷ unsigned 8 i.number ∷ zero_bits (8 * 3) ∷ [])

-- a track (section 8.7.1)
unfoldable pub track_spelling : CueTrack → List Bool
track_spelling t = joined (
    unsigned 64 t.offset ∷ unsigned 8 t.number ∷ bits_of t.isrc ∷ unsigned 1 (bit_value (not t.audio)) ∷ unsigned 1 (bit_value t.pre_emphasis) ∷
    zero_bits (6 + 8 * 13) ∷ unsigned 8 (length t.indices) ∷ each_spelled index_spelling t.indices ∷ [])

-- a cue sheet (section 8.7)
unfoldable pub sheet_spelling : CueSheet → List Bool
sheet_spelling s = joined (
    bits_of s.catalogue ∷ unsigned 64 s.lead_in ∷ unsigned 1 (bit_value s.cd) ∷ zero_bits (7 + 8 * 258) ∷
    unsigned 8 (length s.tracks) ∷ each_spelled track_spelling s.tracks ∷ [])

-- a picture (section 8.8)
unfoldable pub picture_spelling : Picture → List Bool
picture_spelling p = joined (
    unsigned 32 p.kind ∷ sized_bits p.media ∷ sized_bits p.text ∷ unsigned 32 p.width ∷ unsigned 32 p.height ∷
    unsigned 32 p.depth ∷ unsigned 32 p.colours ∷ sized_bits p.bytes ∷ [])

-- the content of a block; that of padding as it is written
unfoldable pub content_spelling : Block → List Bool
content_spelling (block_of.StreamInfo info) = info_spelling info
content_spelling (block_of.Padding n) = zero_bits (8 * n)
content_spelling (block_of.Application id bytes) = joined (bits_of id ∷ bits_of bytes ∷ [])
content_spelling (block_of.SeekTable points) = each_spelled point_spelling points
content_spelling (block_of.VorbisComment found) = comments_spelling found
content_spelling (block_of.CueSheet sheet) = sheet_spelling sheet
content_spelling (block_of.Picture found) = picture_spelling found
content_spelling (block_of.Other kind bytes) = bits_of bytes

-- the number of a block's kind (section 8.1)
abbrev pub kind_of : Block → ℕ
kind_of (block_of.StreamInfo info) = 0
kind_of (block_of.Padding n) = 1
kind_of (block_of.Application id bytes) = 2
kind_of (block_of.SeekTable points) = 3
kind_of (block_of.VorbisComment found) = 4
kind_of (block_of.CueSheet sheet) = 5
kind_of (block_of.Picture found) = 6
kind_of (block_of.Other kind bytes) = kind

-- how many bytes the comments have with their lengths
abbrev pub texts_length : List (List ℕ) → ℕ
texts_length [] = 0
texts_length (text ∷ texts) = 4 + length text + texts_length texts

abbrev pub comments_length : Comments → ℕ
comments_length c = 8 + length c.vendor + texts_length c.list

-- how many bytes the tracks have with their index points
abbrev pub tracks_length : List CueTrack → ℕ
tracks_length [] = 0
tracks_length (track ∷ tracks) = 36 + 12 * length track.indices + tracks_length tracks

-- the length of a block's content in bytes
abbrev pub length_of : Block → ℕ
length_of (block_of.StreamInfo info) = 34
length_of (block_of.Padding n) = n
length_of (block_of.Application id bytes) = 4 + length bytes
length_of (block_of.SeekTable points) = 18 * length points
length_of (block_of.VorbisComment found) = comments_length found
length_of (block_of.CueSheet sheet) = 396 + tracks_length sheet.tracks
length_of (block_of.Picture found) = 32 + length found.media + length found.text + length found.bytes
length_of (block_of.Other kind bytes) = length bytes

-- whether it is the last block, its kind, and the length of its content (section 8.1)
unfoldable pub header_spelling : Bool → ℕ → ℕ → List Bool
header_spelling last kind size = joined (unsigned 1 (bit_value last) ∷ unsigned 7 kind ∷ unsigned 24 size ∷ [])

-- a block
unfoldable pub block_spelling : Bool → Block → List Bool
block_spelling last b = joined (header_spelling last (kind_of b) (length_of b) ∷ content_spelling b ∷ [])
