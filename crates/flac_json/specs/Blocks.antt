-- Metadata blocks as values of JSON (RFC 9639, section 8; RFC 8259).
use Rattle.std.specs.Prelude.{ℕ, ◌+◌, zero, suc, Bool, true, false, cond, min, nat_eq, nat_lt, List, [], ◌∷◌, ◌++◌, length, take, drop, map, codes, decimal}
use Rattle.md5.specs.Md5.{md5}
use Rattle.flac_info.specs.Info.{Info}
use Rattle.flac_meta.specs.SeekTable.{placeholder}
use Rattle.flac_meta.specs.Spelling.{length_of}
use Rattle.flac_meta.specs.declared.seek_table.SeekPoint.{SeekPoint}
use Rattle.flac_meta.specs.declared.comments.Comments.{Comments}
use Rattle.flac_meta.specs.declared.cue_sheet.CueIndex.{CueIndex}
use Rattle.flac_meta.specs.declared.cue_sheet.CueTrack.{CueTrack}
use Rattle.flac_meta.specs.declared.cue_sheet.CueSheet.{CueSheet}
use Rattle.flac_meta.specs.declared.picture.Picture.{Picture}
use Rattle.flac_meta.specs.declared.block.Block.{Block}
use Rattle.flac_meta.specs.declared.block.Block.TheVariants as block_of
use Rattle.flac_json.specs.Json.{Json, number, text, truth, array, object, Members, no_members, member, items_of}
use Rattle.flac_json.specs.Texts.{all_digits}
use Rattle.flac_json.specs.Fields.{bytes_json}

-- STREAMINFO (section 8.2): the digest as hexadecimal digits; 0 for what is not known
abbrev pub info_members : Info → Members
info_members i =
    member (codes "min_block_size") (number i.least_block) (member (codes "max_block_size") (number i.greatest_block)
    (member (codes "min_frame_size") (number i.least_frame) (member (codes "max_frame_size") (number i.greatest_frame)
    (member (codes "rate") (number i.rate) (member (codes "channels") (number i.channels) (member (codes "depth") (number i.depth)
    (member (codes "samples") (number i.total) (member (codes "md5") (text (all_digits i.digest)) no_members))))))))

-- data that is not shown: its length in bytes, and its MD5
abbrev pub data_members : List ℕ → Members
data_members bytes = member (codes "data_length") (number (length bytes)) (member (codes "data_md5") (text (all_digits (md5 bytes))) no_members)

-- a seek point (section 8.5.1), or a placeholder
abbrev pub point_json : SeekPoint → Json
point_json p =
    object (cond (nat_eq p.sample placeholder) (member (codes "placeholder") (truth true)) (member (codes "sample") (number p.sample))
    (member (codes "offset") (number p.offset) (member (codes "samples") (number p.length) no_members)))

-- where the first `=` is; the number of bytes if there is none
abbrev pub equals_at : List ℕ → ℕ
equals_at [] = 0
equals_at (x ∷ xs) = cond (nat_eq x 61) 0 (equals_at xs + 1)

-- a comment (section 8.6): what is before its first `=`, and what is after it; or all of it if it has none
abbrev pub comment_json : List ℕ → Json
comment_json t = cond (nat_lt (equals_at t) (length t))
    (object (member (codes "name") (bytes_json (take (equals_at t) t)) (member (codes "value") (bytes_json (drop (equals_at t + 1) t)) no_members)))
    (object (member (codes "text") (bytes_json t) no_members))

abbrev pub comments_members : Comments → Members
comments_members c = member (codes "vendor") (bytes_json c.vendor) (member (codes "comments") (array (items_of (map comment_json c.list))) no_members)

-- bytes without the zeros at their end, which fill their field up
abbrev pub zero_before : ℕ → List ℕ → List ℕ
zero_before x [] = cond (nat_eq x 0) [] (x ∷ [])
zero_before x (y ∷ ys) = x ∷ y ∷ ys

abbrev pub without_zeros : List ℕ → List ℕ
without_zeros [] = []
without_zeros (x ∷ xs) = zero_before x (without_zeros xs)

-- an index point of a track (section 8.7.1.1)
abbrev pub index_json : CueIndex → Json
index_json i = object (member (codes "number") (number i.number) (member (codes "offset") (number i.offset) no_members))

-- a track (section 8.7.1)
abbrev pub track_json : CueTrack → Json
track_json t =
    object (member (codes "number") (number t.number) (member (codes "offset") (number t.offset) (member (codes "isrc") (bytes_json (without_zeros t.isrc))
    (member (codes "audio") (truth t.audio) (member (codes "pre_emphasis") (truth t.pre_emphasis)
    (member (codes "indices") (array (items_of (map index_json t.indices))) no_members))))))

-- a cue sheet (section 8.7)
abbrev pub sheet_members : CueSheet → Members
sheet_members s =
    member (codes "catalog") (bytes_json (without_zeros s.catalogue)) (member (codes "lead_in") (number s.lead_in) (member (codes "cd") (truth s.cd)
    (member (codes "tracks") (array (items_of (map track_json s.tracks))) no_members)))

-- a picture (section 8.8)
abbrev pub picture_members : Picture → Members
picture_members p =
    member (codes "picture_type") (number p.kind) (member (codes "media_type") (bytes_json p.media) (member (codes "description") (bytes_json p.text)
    (member (codes "width") (number p.width) (member (codes "height") (number p.height) (member (codes "depth") (number p.depth)
    (member (codes "colors") (number p.colours) (data_members p.bytes)))))))

-- the members of a block after its number, its type and the length of its content
abbrev pub own_members : Block → Members
own_members (block_of.StreamInfo info) = info_members info
own_members (block_of.Padding n) = no_members
own_members (block_of.Application id bytes) = member (codes "id") (text (all_digits id)) (data_members bytes)
own_members (block_of.SeekTable points) = member (codes "points") (array (items_of (map point_json points))) no_members
own_members (block_of.VorbisComment comments) = comments_members comments
own_members (block_of.CueSheet sheet) = sheet_members sheet
own_members (block_of.Picture picture) = picture_members picture
own_members (block_of.Other kind bytes) = data_members bytes

-- the name of a block's type (section 8.1)
abbrev pub type_name : Block → List ℕ
type_name (block_of.StreamInfo info) = codes "STREAMINFO"
type_name (block_of.Padding n) = codes "PADDING"
type_name (block_of.Application id bytes) = codes "APPLICATION"
type_name (block_of.SeekTable points) = codes "SEEKTABLE"
type_name (block_of.VorbisComment comments) = codes "VORBIS_COMMENT"
type_name (block_of.CueSheet sheet) = codes "CUESHEET"
type_name (block_of.Picture picture) = codes "PICTURE"
type_name (block_of.Other kind bytes) = codes "TYPE_" ++ decimal kind

-- the number of bytes of a block's content (section 8.1); the length field has 24 bits
abbrev pub printed_length : Block → ℕ
printed_length b = min (length_of b) 16777216

-- the block of this number, counted from 0
abbrev pub block_json : (index : ℕ) → Block → Json
block_json index b =
    object (member (codes "number") (number index) (member (codes "type") (text (type_name b)) (member (codes "length") (number (printed_length b)) (own_members b))))
