-- Blocks are spelled in whole bytes.
use Rattle.std.proofs.Common.{◌≡◌, ℕ, ◌+◌, ◌-◌, ◌*◌, ◌/◌, ◌%◌, Bool, false, not, List, [], ◌∷◌, ◌++◌, length, length-append, refl, arith}
use Rattle.std.proofs.lemmas.List.{length-replicate}
use Rattle.flac_bits.specs.LittleEndian.{little_bits}
use Rattle.flac_bits.specs.Bits.{unsigned, bits_of, bit_value, is_nil}
use Rattle.flac_bits.specs.Forms.{joined}
use Rattle.flac_bits.proofs.Words.{length-unsigned}
use Rattle.flac_bits.proofs.Holding.{length-bits_of}
use Rattle.flac_meta.specs.Spelling as s
use Rattle.flac_info.specs.Info.{Info}
use Rattle.flac_meta.specs.declared.seek_table.SeekPoint.{SeekPoint}
use Rattle.flac_meta.specs.declared.comments.Comments.{Comments}
use Rattle.flac_meta.specs.declared.cue_sheet.CueIndex.{CueIndex}
use Rattle.flac_meta.specs.declared.cue_sheet.CueTrack.{CueTrack}
use Rattle.flac_meta.specs.declared.cue_sheet.CueSheet.{CueSheet}
use Rattle.flac_meta.specs.declared.picture.Picture.{Picture}
use Rattle.flac_meta.specs.declared.block.Block.{Block}
use Rattle.flac_meta.specs.declared.block.Block.TheVariants as block_of
use Rattle.flac_native.specs.Writing.{blocks_spelling, head_spelling}

-- how many bits parts have together
abbrev pub bits_in : List (List Bool) → ℕ
bits_in [] = 0
bits_in (part ∷ parts) = length part + bits_in parts

pub length-joined : (parts : List (List Bool)) → length (joined parts) ≡ bits_in parts
length-joined [] = refl
length-joined (part ∷ parts) = omega (arith, length-append part (joined parts), length-joined parts)

-- of whole bytes
pub record Whole (text : List Bool) : Type 0 where
  pub bytes : length text % 8 ≡ 0

pub whole_nil : Whole []
whole_nil = record { bytes = refl }

pub whole_append : (xs ys : List Bool) → Whole xs → Whole ys → Whole (xs ++ ys)
whole_append xs ys h k = record { bytes = omega (arith, length-append xs ys, h.bytes, k.bytes) }

each_whole : {A : Type 0} (spelling : A → List Bool) → ((x : A) → Whole (spelling x)) → (xs : List A) → Whole (s.each_spelled spelling xs)
unfolding s.each_spelled
each_whole spelling h [] = whole_nil
each_whole spelling h (x ∷ xs) = whole_append (spelling x) (s.each_spelled spelling xs) (h x) (each_whole spelling h xs)

pub bits_whole : (bytes : List ℕ) → Whole (bits_of bytes)
bits_whole bytes = record { bytes = omega (arith, length-bits_of bytes) }

little_long : (v : ℕ) → length (little_bits v) ≡ 32
unfolding little_bits
little_long v =
    let a = unsigned 8 (v % 256) in
    omega (arith, length-joined (unsigned 8 (v % 256) ∷ unsigned 8 (v / 256 % 256) ∷ unsigned 8 (v / 65536 % 256) ∷ unsigned 8 (v / 16777216) ∷ []), length-unsigned 8 (v % 256), length-unsigned 8 (v / 256 % 256), length-unsigned 8 (v / 65536 % 256), length-unsigned 8 (v / 16777216))

little_whole : (text : List ℕ) → Whole (s.little_sized text)
unfolding s.little_sized
little_whole text = record { bytes = omega (arith, length-joined (little_bits (length text) ∷ bits_of text ∷ []), little_long (length text), length-bits_of text) }

sized_whole : (text : List ℕ) → Whole (s.sized_bits text)
unfolding s.sized_bits
sized_whole text = record { bytes = omega (arith, length-joined (unsigned 32 (length text) ∷ bits_of text ∷ []), length-unsigned 32 (length text), length-bits_of text) }

info_whole : (i : Info) → Whole (s.info_spelling i)
unfolding s.info_spelling
info_whole i = record {
  bytes =
      omega (
        arith,
        length-joined (
            unsigned 16 i.least_block ∷ unsigned 16 i.greatest_block ∷ unsigned 24 i.least_frame ∷ unsigned 24 i.greatest_frame ∷
            unsigned 20 i.rate ∷ unsigned 3 (i.channels - 1) ∷ unsigned 5 (i.depth - 1) ∷ unsigned 36 i.total ∷ bits_of i.digest ∷ []),
        length-unsigned 16 i.least_block,
        length-unsigned 16 i.greatest_block,
        length-unsigned 24 i.least_frame,
        length-unsigned 24 i.greatest_frame,
        length-unsigned 20 i.rate,
        length-unsigned 3 (i.channels - 1),
        length-unsigned 5 (i.depth - 1),
        length-unsigned 36 i.total,
        length-bits_of i.digest,
      );
}

pub info_long : (i : Info) → length i.digest ≡ 16 → length (s.info_spelling i) ≡ 272
unfolding s.info_spelling
info_long i digest =
    omega (
      arith,
      length-joined (
          unsigned 16 i.least_block ∷ unsigned 16 i.greatest_block ∷ unsigned 24 i.least_frame ∷ unsigned 24 i.greatest_frame ∷
          unsigned 20 i.rate ∷ unsigned 3 (i.channels - 1) ∷ unsigned 5 (i.depth - 1) ∷ unsigned 36 i.total ∷ bits_of i.digest ∷ []),
      length-unsigned 16 i.least_block,
      length-unsigned 16 i.greatest_block,
      length-unsigned 24 i.least_frame,
      length-unsigned 24 i.greatest_frame,
      length-unsigned 20 i.rate,
      length-unsigned 3 (i.channels - 1),
      length-unsigned 5 (i.depth - 1),
      length-unsigned 36 i.total,
      length-bits_of i.digest,
      digest,
    )

point_whole : (p : SeekPoint) → Whole (s.point_spelling p)
unfolding s.point_spelling
point_whole p = record { bytes = omega (arith, length-joined (unsigned 64 p.sample ∷ unsigned 64 p.offset ∷ unsigned 16 p.length ∷ []), length-unsigned 64 p.sample, length-unsigned 64 p.offset, length-unsigned 16 p.length) }

comments_whole : (c : Comments) → Whole (s.comments_spelling c)
unfolding s.comments_spelling
comments_whole c =
    let vendor = little_whole c.vendor in
    let list = each_whole s.little_sized little_whole c.list in
    record { bytes = omega (arith, length-joined (s.little_sized c.vendor ∷ little_bits (length c.list) ∷ s.each_spelled s.little_sized c.list ∷ []), vendor.bytes, little_long (length c.list), list.bytes) }

zeros_long : (n : ℕ) → length (s.zero_bits n) ≡ n
unfolding s.zero_bits
zeros_long n = length-replicate n false

index_whole : (i : CueIndex) → Whole (s.index_spelling i)
unfolding s.index_spelling
index_whole i = record { bytes = omega (arith, length-joined (unsigned 64 i.offset ∷ unsigned 8 i.number ∷ s.zero_bits (8 * 3) ∷ []), length-unsigned 64 i.offset, length-unsigned 8 i.number, zeros_long (8 * 3)) }

track_whole : (t : CueTrack) → Whole (s.track_spelling t)
unfolding s.track_spelling
track_whole t =
    let indices = each_whole s.index_spelling index_whole t.indices in
    let audio = bit_value (not t.audio) in
    let pre = bit_value t.pre_emphasis in
    record {
      bytes = omega (
        arith,
        length-joined (
            unsigned 64 t.offset ∷ unsigned 8 t.number ∷ bits_of t.isrc ∷ unsigned 1 (bit_value (not t.audio)) ∷ unsigned 1 (bit_value t.pre_emphasis) ∷
            s.zero_bits (6 + 8 * 13) ∷ unsigned 8 (length t.indices) ∷ s.each_spelled s.index_spelling t.indices ∷ []),
        length-unsigned 64 t.offset,
        length-unsigned 8 t.number,
        length-bits_of t.isrc,
        length-unsigned 1 (bit_value (not t.audio)),
        length-unsigned 1 (bit_value t.pre_emphasis),
        zeros_long (6 + 8 * 13),
        length-unsigned 8 (length t.indices),
        indices.bytes,
      );
    }

sheet_whole : (c : CueSheet) → Whole (s.sheet_spelling c)
unfolding s.sheet_spelling
sheet_whole c =
    let tracks = each_whole s.track_spelling track_whole c.tracks in
    record {
      bytes = omega (
        arith,
        length-joined (
            bits_of c.catalogue ∷ unsigned 64 c.lead_in ∷ unsigned 1 (bit_value c.cd) ∷ s.zero_bits (7 + 8 * 258) ∷
            unsigned 8 (length c.tracks) ∷ s.each_spelled s.track_spelling c.tracks ∷ []),
        length-bits_of c.catalogue,
        length-unsigned 64 c.lead_in,
        length-unsigned 1 (bit_value c.cd),
        zeros_long (7 + 8 * 258),
        length-unsigned 8 (length c.tracks),
        tracks.bytes,
      );
    }

picture_whole : (p : Picture) → Whole (s.picture_spelling p)
unfolding s.picture_spelling
picture_whole p =
    let media = sized_whole p.media in
    let text = sized_whole p.text in
    let bytes = sized_whole p.bytes in
    record {
      bytes = omega (
        arith,
        length-joined (
            unsigned 32 p.kind ∷ s.sized_bits p.media ∷ s.sized_bits p.text ∷ unsigned 32 p.width ∷ unsigned 32 p.height ∷
            unsigned 32 p.depth ∷ unsigned 32 p.colours ∷ s.sized_bits p.bytes ∷ []),
        length-unsigned 32 p.kind,
        media.bytes,
        text.bytes,
        length-unsigned 32 p.width,
        length-unsigned 32 p.height,
        length-unsigned 32 p.depth,
        length-unsigned 32 p.colours,
        bytes.bytes,
      );
    }

pub content_whole : (b : Block) → Whole (s.content_spelling b)
unfolding s.content_spelling
content_whole (block_of.StreamInfo info) = info_whole info
content_whole (block_of.Padding n) = record { bytes = omega (arith, zeros_long (8 * n)) }
content_whole (block_of.Application id bytes) = record { bytes = omega (arith, length-joined (bits_of id ∷ bits_of bytes ∷ []), length-bits_of id, length-bits_of bytes) }
content_whole (block_of.SeekTable points) = each_whole s.point_spelling point_whole points
content_whole (block_of.VorbisComment found) = comments_whole found
content_whole (block_of.CueSheet sheet) = sheet_whole sheet
content_whole (block_of.Picture found) = picture_whole found
content_whole (block_of.Other kind bytes) = bits_whole bytes

pub header_long : (last : Bool) (kind size : ℕ) → length (s.header_spelling last kind size) ≡ 32
unfolding s.header_spelling
header_long last kind size = omega (arith, length-joined (unsigned 1 (bit_value last) ∷ unsigned 7 kind ∷ unsigned 24 size ∷ []), length-unsigned 1 (bit_value last), length-unsigned 7 kind, length-unsigned 24 size)

pub block_whole : (last : Bool) (b : Block) → Whole (s.block_spelling last b)
unfolding s.block_spelling
block_whole last b =
    let content = content_whole b in
    record { bytes = omega (arith, length-joined (s.header_spelling last (s.kind_of b) (s.length_of b) ∷ s.content_spelling b ∷ []), header_long last (s.kind_of b) (s.length_of b), content.bytes) }

pub blocks_whole : (bs : List Block) → Whole (blocks_spelling bs)
blocks_whole [] = whole_nil
blocks_whole (b ∷ bs) = whole_append (s.block_spelling (is_nil bs) b) (blocks_spelling bs) (block_whole (is_nil bs) b) (blocks_whole bs)

pub head_whole : (info : Info) (list : List Block) → Whole (head_spelling info list)
head_whole info list =
    let marker : Whole (unsigned 32 0x664C6143) = record { bytes = refl } in
    whole_append (unsigned 32 0x664C6143) (blocks_spelling (block_of.StreamInfo info ∷ list)) marker (blocks_whole (block_of.StreamInfo info ∷ list))
