-- A block has 8 bits for each byte of the length that its header states, if its fields fit.
use Rattle.std.proofs.Common.{◌≡◌, ℕ, ◌+◌, ◌*◌, Bool, false, not, List, [], ◌∷◌, length, length-append, refl, ap, ◌∙◌, arith}
use Rattle.std.proofs.lemmas.List.{length-replicate}
use Rattle.flac_bits.specs.Bits.{unsigned, bits_of, bit_value}
use Rattle.flac_bits.specs.LittleEndian.{little_bits}
use Rattle.flac_bits.proofs.Words.{length-unsigned}
use Rattle.flac_bits.proofs.Holding.{length-bits_of}
use Rattle.flac_meta.specs.Spelling as s
use Rattle.flac_meta.specs.Valid.{AllAre, IsTrack, IsSheet, FitsFields, ContentSpelled, BlockSpelled}
use Rattle.flac_meta.specs.declared.seek_table.SeekPoint.{SeekPoint}
use Rattle.flac_meta.specs.declared.comments.Comments.{Comments}
use Rattle.flac_meta.specs.declared.cue_sheet.CueIndex.{CueIndex}
use Rattle.flac_meta.specs.declared.cue_sheet.CueTrack.{CueTrack}
use Rattle.flac_meta.specs.declared.cue_sheet.CueSheet.{CueSheet}
use Rattle.flac_meta.specs.declared.picture.Picture.{Picture}
use Rattle.flac_meta.specs.declared.block.Block.{Block}
use Rattle.flac_meta.specs.declared.block.Block.TheVariants as block_of
use Rattle.flac_native.proofs.WholeBytes.{length-joined, header_long, info_long}

little_long : (v : ℕ) → length (little_bits v) ≡ 32
unfolding little_bits
little_long v = refl

little_sized_long : (text : List ℕ) → length (s.little_sized text) ≡ 32 + 8 * length text
unfolding s.little_sized
little_sized_long text = omega (arith, length-joined (little_bits (length text) ∷ bits_of text ∷ []), little_long (length text), length-bits_of text)

texts_long : (texts : List (List ℕ)) → length (s.each_spelled s.little_sized texts) ≡ 8 * s.texts_length texts
unfolding s.each_spelled
texts_long [] = refl
texts_long (text ∷ texts) = omega (arith, length-append (s.little_sized text) (s.each_spelled s.little_sized texts), little_sized_long text, texts_long texts)

pub comments_long : (c : Comments) → length (s.comments_spelling c) ≡ 8 * s.comments_length c
unfolding s.comments_spelling
comments_long c = omega (
  arith,
  length-joined (s.little_sized c.vendor ∷ little_bits (length c.list) ∷ s.each_spelled s.little_sized c.list ∷ []),
  little_sized_long c.vendor,
  little_long (length c.list),
  texts_long c.list,
)

point_long : (p : SeekPoint) → length (s.point_spelling p) ≡ 144
unfolding s.point_spelling
point_long p = omega (arith, length-joined (unsigned 64 p.sample ∷ unsigned 64 p.offset ∷ unsigned 16 p.length ∷ []), length-unsigned 64 p.sample, length-unsigned 64 p.offset, length-unsigned 16 p.length)

points_long : (ps : List SeekPoint) → length (s.each_spelled s.point_spelling ps) ≡ 8 * (18 * length ps)
unfolding s.each_spelled
points_long [] = refl
points_long (p ∷ ps) = omega (arith, length-append (s.point_spelling p) (s.each_spelled s.point_spelling ps), point_long p, points_long ps)

zeros_long : (n : ℕ) → length (s.zero_bits n) ≡ n
unfolding s.zero_bits
zeros_long n = length-replicate n false

index_long : (i : CueIndex) → length (s.index_spelling i) ≡ 96
unfolding s.index_spelling
index_long i = omega (arith, length-joined (unsigned 64 i.offset ∷ unsigned 8 i.number ∷ s.zero_bits (8 * 3) ∷ []), length-unsigned 64 i.offset, length-unsigned 8 i.number, zeros_long (8 * 3))

indices_long : (is : List CueIndex) → length (s.each_spelled s.index_spelling is) ≡ 8 * (12 * length is)
unfolding s.each_spelled
indices_long [] = refl
indices_long (i ∷ is) = omega (arith, length-append (s.index_spelling i) (s.each_spelled s.index_spelling is), index_long i, indices_long is)

track_long : (t : CueTrack) → IsTrack t → length (s.track_spelling t) ≡ 8 * (36 + 12 * length t.indices)
unfolding s.track_spelling
track_long t is =
    omega (
      arith,
      length-joined (
          unsigned 64 t.offset ∷ unsigned 8 t.number ∷ bits_of t.isrc ∷ unsigned 1 (bit_value (not t.audio)) ∷ unsigned 1 (bit_value t.pre_emphasis) ∷
          s.zero_bits (6 + 8 * 13) ∷ unsigned 8 (length t.indices) ∷ s.each_spelled s.index_spelling t.indices ∷ []),
      length-unsigned 64 t.offset,
      length-unsigned 8 t.number,
      length-bits_of t.isrc,
      is.isrc.many,
      length-unsigned 1 (bit_value (not t.audio)),
      length-unsigned 1 (bit_value t.pre_emphasis),
      zeros_long (6 + 8 * 13),
      length-unsigned 8 (length t.indices),
      indices_long t.indices,
    )

tracks_long : (ts : List CueTrack) → AllAre IsTrack ts → length (s.each_spelled s.track_spelling ts) ≡ 8 * s.tracks_length ts
unfolding s.each_spelled
tracks_long [] all = refl
tracks_long (t ∷ ts) (is, all) = omega (arith, length-append (s.track_spelling t) (s.each_spelled s.track_spelling ts), track_long t is, tracks_long ts all)

sheet_long : (h : CueSheet) → IsSheet h → length (s.sheet_spelling h) ≡ 8 * (396 + s.tracks_length h.tracks)
unfolding s.sheet_spelling
sheet_long h is =
    omega (
      arith,
      length-joined (
          bits_of h.catalogue ∷ unsigned 64 h.lead_in ∷ unsigned 1 (bit_value h.cd) ∷ s.zero_bits (7 + 8 * 258) ∷
          unsigned 8 (length h.tracks) ∷ s.each_spelled s.track_spelling h.tracks ∷ []),
      length-bits_of h.catalogue,
      is.catalogue.many,
      length-unsigned 64 h.lead_in,
      length-unsigned 1 (bit_value h.cd),
      zeros_long (7 + 8 * 258),
      length-unsigned 8 (length h.tracks),
      tracks_long h.tracks is.tracks,
    )

sized_long : (text : List ℕ) → length (s.sized_bits text) ≡ 32 + 8 * length text
unfolding s.sized_bits
sized_long text = omega (arith, length-joined (unsigned 32 (length text) ∷ bits_of text ∷ []), length-unsigned 32 (length text), length-bits_of text)

picture_long : (p : Picture) → length (s.picture_spelling p) ≡ 8 * (32 + length p.media + length p.text + length p.bytes)
unfolding s.picture_spelling
picture_long p =
    omega (
      arith,
      length-joined (
          unsigned 32 p.kind ∷ s.sized_bits p.media ∷ s.sized_bits p.text ∷ unsigned 32 p.width ∷ unsigned 32 p.height ∷
          unsigned 32 p.depth ∷ unsigned 32 p.colours ∷ s.sized_bits p.bytes ∷ []),
      length-unsigned 32 p.kind,
      sized_long p.media,
      sized_long p.text,
      length-unsigned 32 p.width,
      length-unsigned 32 p.height,
      length-unsigned 32 p.depth,
      length-unsigned 32 p.colours,
      sized_long p.bytes,
    )

application_long : (id bytes : List ℕ) → length id ≡ 4 → length (s.content_spelling (block_of.Application id bytes)) ≡ 8 * (4 + length bytes)
unfolding s.content_spelling
application_long id bytes four = omega (arith, length-joined (bits_of id ∷ bits_of bytes ∷ []), length-bits_of id, four, length-bits_of bytes)

content_long : (b : Block) (text : List Bool) → FitsFields b → ContentSpelled b text → length text ≡ 8 * s.length_of b
unfolding s.content_spelling
content_long (block_of.StreamInfo info) text fits is = ap (λ (l : List Bool). length l) is ∙ info_long info fits.digest.many
content_long (block_of.Padding n) text fits (v, lt, is) = ap (λ (l : List Bool). length l) is ∙ length-unsigned (8 * n) v
content_long (block_of.Application id bytes) text fits is = ap (λ (l : List Bool). length l) is ∙ application_long id bytes fits.0.many
content_long (block_of.SeekTable points) text fits is = ap (λ (l : List Bool). length l) is ∙ points_long points
content_long (block_of.VorbisComment found) text fits is = ap (λ (l : List Bool). length l) is ∙ comments_long found
content_long (block_of.CueSheet sheet) text fits is = ap (λ (l : List Bool). length l) is ∙ sheet_long sheet fits
content_long (block_of.Picture found) text fits is = ap (λ (l : List Bool). length l) is ∙ picture_long found
content_long (block_of.Other kind bytes) text fits is = ap (λ (l : List Bool). length l) is ∙ length-bits_of bytes

pub block_long : (last : Bool) (b : Block) (text : List Bool) → FitsFields b → BlockSpelled last b text → length text ≡ 8 * (4 + s.length_of b)
block_long last b text fits (content, spelled, is) =
    let long = content_long b content fits spelled in
    omega (arith, ap (λ (l : List Bool). length l) is, length-joined (s.header_spelling last (s.kind_of b) (s.length_of b) ∷ content ∷ []), header_long last (s.kind_of b) (s.length_of b), long)
