-- Where the frames of a native stream start.
use Rattle.std.proofs.Common.{◌≡◌, ℕ, ◌+◌, ◌*◌, ◌/◌, ◌%◌, ◌^◌, ◌<◌, ◌≤◌, not, Bool, false, List, [], ◌∷◌, ◌++◌, length, length-append, map, take, drop, refl, sym, ap, subst, ◌∙◌, arith}
use Rattle.std.specs.Prelude.{All}
use Rattle.std.proofs.Math.Seq.{take-append_seam}
use Rattle.std.proofs.lemmas.List.{length-replicate, length-take, take-append-drop}
use Rattle.std.proofs.lemmas.List.Elements.{All-head, All-tail}
use Rattle.flac_bits.specs.Bits.{unsigned, bits_of, bit_value}
use Rattle.flac_bits.specs.LittleEndian.{little_bits}
use Rattle.flac_bits.specs.State.{Mark, past, fresh}
use Rattle.flac_bits.specs.Items.{Joined, Stream, state_after}
use Rattle.flac_bits.specs.declared.why.Why.TheVariants.{Truncated}
use Rattle.flac_bits.proofs.Words.{length-unsigned}
use Rattle.flac_bits.proofs.Holding.{length-bits_of, bits_of-append}
use Rattle.flac_meta.specs.Spelling as s
use Rattle.flac_info.specs.Info.{Info}
use Rattle.flac_meta.specs.Valid.{AllAre, IsTrack, FitsFields, ContentSpelled, BlockSpelled}
use Rattle.flac_meta.specs.declared.seek_table.SeekPoint.{SeekPoint}
use Rattle.flac_meta.specs.declared.comments.Comments.{Comments}
use Rattle.flac_meta.specs.declared.cue_sheet.CueIndex.{CueIndex}
use Rattle.flac_meta.specs.declared.cue_sheet.CueTrack.{CueTrack}
use Rattle.flac_meta.specs.declared.cue_sheet.CueSheet.{CueSheet}
use Rattle.flac_meta.specs.declared.picture.Picture.{Picture}
use Rattle.flac_meta.specs.declared.block.Block.{Block}
use Rattle.flac_meta.specs.declared.block.Block.TheVariants as block_of
use Rattle.flac_meta.proofs.Lengths.{faultless}
use Rattle.flac_header.specs.declared.subset.Profile.{Profile}
use Rattle.flac_frame.specs.Frame.{Frame}
use Rattle.flac_native.specs.Decoding.{beginning}
use Rattle.flac_native.specs.Given.{closing}
use Rattle.flac_native.specs.Item.{Item, metadata, frame}
use Rattle.flac_native.specs.Giving.{items_of}
use Rattle.flac_native.specs.Stream.{marked, framed, grammar, opening, next}
use Rattle.flac_native.specs.Whole.{head_parts}
use Rattle.flac_native.specs.BlockOrder.{MarkedBlock, AreSpelled, without_marks, IsValid}
use Rattle.flac_native.proofs.WholeBytes.{length-joined, header_long, info_long}
use Rattle.flac_native.proofs.Blocks.{marker_there}
use Rattle.flac_native.proofs.OneHead.{closing_ends}
use Rattle.flac_native.proofs.NewHead.{valid_after}
use Rattle.flac_native.proofs.BlockOrder.{closed, are_ordered}
use Rattle.flac_native.proofs.Whole.{head_leaves, streams_are_whole}
use Rattle.flac_reader.specs.Kept.{first_info}
use Rattle.flac_reader.specs.Coming.{stream_items}
use Rattle.flac_reader.specs.Starting.{block_bytes, and_block, and_blocks, frames_start}
use Rattle.flac_reader.specs.Seeking.{FramesStart}

-- ---- how long a block's content is

abbrev bits_in : List Bool → ℕ
bits_in text = length text

each_long : {A : Type 0} (spelling : A → List Bool) (n : ℕ) → ((x : A) → length (spelling x) ≡ n) → (xs : List A) → length (s.each_spelled spelling xs) ≡ n * length xs
unfolding s.each_spelled
each_long spelling n h [] = omega arith
each_long spelling n h (x ∷ xs) = omega (arith, length-append (spelling x) (s.each_spelled spelling xs), h x, each_long spelling n h xs)

little_long : (v : ℕ) → length (little_bits v) ≡ 32
unfolding little_bits
little_long v =
    omega (arith, length-joined (unsigned 8 (v % 256) ∷ unsigned 8 (v / 256 % 256) ∷ unsigned 8 (v / 65536 % 256) ∷ unsigned 8 (v / 16777216) ∷ []), length-unsigned 8 (v % 256), length-unsigned 8 (v / 256 % 256), length-unsigned 8 (v / 65536 % 256), length-unsigned 8 (v / 16777216))

little_text : (text : List ℕ) → length (s.little_sized text) ≡ 32 + 8 * length text
unfolding s.little_sized
little_text text = omega (arith, length-joined (little_bits (length text) ∷ bits_of text ∷ []), little_long (length text), length-bits_of text)

texts_long : (texts : List (List ℕ)) → length (s.each_spelled s.little_sized texts) ≡ 8 * s.texts_length texts
unfolding s.each_spelled
texts_long [] = refl
texts_long (text ∷ texts) = omega (arith, length-append (s.little_sized text) (s.each_spelled s.little_sized texts), little_text text, texts_long texts)

sized_long : (text : List ℕ) → length (s.sized_bits text) ≡ 32 + 8 * length text
unfolding s.sized_bits
sized_long text = omega (arith, length-joined (unsigned 32 (length text) ∷ bits_of text ∷ []), length-unsigned 32 (length text), length-bits_of text)

zeros_long : (n : ℕ) → length (s.zero_bits n) ≡ n
unfolding s.zero_bits
zeros_long n = length-replicate n false

point_long : (p : SeekPoint) → length (s.point_spelling p) ≡ 144
unfolding s.point_spelling
point_long p = omega (arith, length-joined (unsigned 64 p.sample ∷ unsigned 64 p.offset ∷ unsigned 16 p.length ∷ []), length-unsigned 64 p.sample, length-unsigned 64 p.offset, length-unsigned 16 p.length)

comments_long : (c : Comments) → length (s.comments_spelling c) ≡ 8 * s.comments_length c
unfolding s.comments_spelling
comments_long c =
    omega (arith, length-joined (s.little_sized c.vendor ∷ little_bits (length c.list) ∷ s.each_spelled s.little_sized c.list ∷ []), little_text c.vendor, little_long (length c.list), texts_long c.list)

index_long : (i : CueIndex) → length (s.index_spelling i) ≡ 96
unfolding s.index_spelling
index_long i = omega (arith, length-joined (unsigned 64 i.offset ∷ unsigned 8 i.number ∷ s.zero_bits (8 * 3) ∷ []), length-unsigned 64 i.offset, length-unsigned 8 i.number, zeros_long (8 * 3))

track_long : (t : CueTrack) → length t.isrc ≡ 12 → length (s.track_spelling t) ≡ 288 + 96 * length t.indices
unfolding s.track_spelling
track_long t isrc =
    omega (
      arith,
      length-joined (
          unsigned 64 t.offset ∷ unsigned 8 t.number ∷ bits_of t.isrc ∷ unsigned 1 (bit_value (not t.audio)) ∷ unsigned 1 (bit_value t.pre_emphasis) ∷
          s.zero_bits (6 + 8 * 13) ∷ unsigned 8 (length t.indices) ∷ s.each_spelled s.index_spelling t.indices ∷ []),
      length-unsigned 64 t.offset,
      length-unsigned 8 t.number,
      length-bits_of t.isrc,
      length-unsigned 1 (bit_value (not t.audio)),
      length-unsigned 1 (bit_value t.pre_emphasis),
      zeros_long (6 + 8 * 13),
      length-unsigned 8 (length t.indices),
      each_long s.index_spelling 96 index_long t.indices,
      isrc,
    )

tracks_long : (tracks : List CueTrack) → AllAre IsTrack tracks → length (s.each_spelled s.track_spelling tracks) ≡ 8 * s.tracks_length tracks
unfolding s.each_spelled
tracks_long [] all = refl
tracks_long (t ∷ ts) all = omega (arith, length-append (s.track_spelling t) (s.each_spelled s.track_spelling ts), track_long t all.0.isrc.many, tracks_long ts all.1)

sheet_long : (c : CueSheet) → length c.catalogue ≡ 128 → AllAre IsTrack c.tracks → length (s.sheet_spelling c) ≡ 8 * (396 + s.tracks_length c.tracks)
unfolding s.sheet_spelling
sheet_long c catalogue all =
    omega (
      arith,
      length-joined (
          bits_of c.catalogue ∷ unsigned 64 c.lead_in ∷ unsigned 1 (bit_value c.cd) ∷ s.zero_bits (7 + 8 * 258) ∷
          unsigned 8 (length c.tracks) ∷ s.each_spelled s.track_spelling c.tracks ∷ []),
      length-bits_of c.catalogue,
      length-unsigned 64 c.lead_in,
      length-unsigned 1 (bit_value c.cd),
      zeros_long (7 + 8 * 258),
      length-unsigned 8 (length c.tracks),
      tracks_long c.tracks all,
      catalogue,
    )

picture_long : (p : Picture) → length (s.picture_spelling p) ≡ 8 * (32 + length p.media + length p.text + length p.bytes)
unfolding s.picture_spelling
picture_long p =
    omega (
      arith,
      length-joined (
          unsigned 32 p.kind ∷ s.sized_bits p.media ∷ s.sized_bits p.text ∷ unsigned 32 p.width ∷ unsigned 32 p.height ∷
          unsigned 32 p.depth ∷ unsigned 32 p.colours ∷ s.sized_bits p.bytes ∷ []),
      length-unsigned 32 p.kind,
      sized_long p.media,
      sized_long p.text,
      length-unsigned 32 p.width,
      length-unsigned 32 p.height,
      length-unsigned 32 p.depth,
      length-unsigned 32 p.colours,
      sized_long p.bytes,
    )

spelled_long : (b : Block) → FitsFields b → length (s.content_spelling b) ≡ 8 * s.length_of b
unfolding s.content_spelling
spelled_long (block_of.StreamInfo info) fits = info_long info fits.digest.many
spelled_long (block_of.Padding n) fits = zeros_long (8 * n)
spelled_long (block_of.Application id bytes) fits = omega (arith, length-joined (bits_of id ∷ bits_of bytes ∷ []), length-bits_of id, length-bits_of bytes, fits.0.many)
spelled_long (block_of.SeekTable points) fits = omega (arith, each_long s.point_spelling 144 point_long points)
spelled_long (block_of.VorbisComment found) fits = comments_long found
spelled_long (block_of.CueSheet sheet) fits = sheet_long sheet fits.catalogue.many fits.tracks
spelled_long (block_of.Picture found) fits = picture_long found
spelled_long (block_of.Other kind bytes) fits = length-bits_of bytes

content_long : (b : Block) (text : List Bool) → FitsFields b → ContentSpelled b text → length text ≡ 8 * s.length_of b
content_long (block_of.Padding n) text fits (v, lt, is) = ap bits_in is ∙ length-unsigned (8 * n) v
content_long (block_of.StreamInfo info) text fits is = ap bits_in is ∙ spelled_long (block_of.StreamInfo info) fits
content_long (block_of.Application id bytes) text fits is = ap bits_in is ∙ spelled_long (block_of.Application id bytes) fits
content_long (block_of.SeekTable points) text fits is = ap bits_in is ∙ spelled_long (block_of.SeekTable points) fits
content_long (block_of.VorbisComment found) text fits is = ap bits_in is ∙ spelled_long (block_of.VorbisComment found) fits
content_long (block_of.CueSheet found) text fits is = ap bits_in is ∙ spelled_long (block_of.CueSheet found) fits
content_long (block_of.Picture found) text fits is = ap bits_in is ∙ spelled_long (block_of.Picture found) fits
content_long (block_of.Other kind bytes) text fits is = ap bits_in is ∙ spelled_long (block_of.Other kind bytes) fits

block_long : (last : Bool) (b : Block) (text : List Bool) → IsValid b → BlockSpelled last b text → length text ≡ 8 * block_bytes b
block_long last b text valid (content, spelled, is) =
    let small = (faultless b valid.written).small in
    omega (arith, ap bits_in is, length-joined (s.header_spelling last (s.kind_of b) (s.length_of b) ∷ content ∷ []), header_long last (s.kind_of b) (s.length_of b), content_long b content valid.fits spelled, small)

-- ---- and all blocks

-- after n bytes, as long as these can be counted
blocks_long : (n : ℕ) (list : List MarkedBlock) (text : List Bool) → All IsValid (without_marks list) → AreSpelled list text → 8 * n + length text < 8 * 2 ^ 64 → 8 * and_blocks n (without_marks list) ≡ 8 * n + length text
unfolding and_blocks
blocks_long n [] text all spelled few = omega (arith, ap bits_in spelled)
blocks_long n (b ∷ bs) text all (front, rest, split, here, more) few =
    let long = block_long b.0 b.1 front (All-head IsValid b.1 (without_marks bs) all) here in
    let whole : length text ≡ length front + length rest = ap bits_in split ∙ length-append front rest in
    let on : and_block n b.1 ≡ n + block_bytes b.1 = omega (arith, long, whole, few) in
    let r = blocks_long (and_block n b.1) bs rest (All-tail IsValid b.1 (without_marks bs) all) more (omega (arith, on, long, whole, few)) in
    omega (arith, r, on, long, whole)

-- ---- which blocks and frames a stream has

abbrev items : List Block → List Frame → List Item
items blocks frames = stream_items blocks frames

abbrev cons : Item → List Item → List Item
cons x xs = x ∷ xs

-- they are told by the items
same_frames : (fs gs : List Frame) → map frame fs ≡ map frame gs → fs ≡ gs
same_frames [] [] e = refl
same_frames [] (g ∷ gs) e = absurd (none (map frame gs) e)
  where
    none : (xs : List Item) → map frame [] ≡ frame g ∷ xs → ⊥
    none xs e = absurd cc
same_frames (f ∷ fs) [] e = absurd (none (map frame fs) e)
  where
    none : (xs : List Item) → cons (frame f) xs ≡ map frame [] → ⊥
    none xs e = absurd cc
same_frames (f ∷ fs) (g ∷ gs) e =
    let here : f ≡ g = head (map frame fs) (map frame gs) e in
    ap (λ k. k ∷ fs) here ∙ ap (λ ks. g ∷ ks) (same_frames fs gs (tail (map frame fs) (map frame gs) e))
  where
    head : (xs ys : List Item) → cons (frame f) xs ≡ cons (frame g) ys → f ≡ g
    head xs ys e = cc

    tail : (xs ys : List Item) → cons (frame f) xs ≡ cons (frame g) ys → xs ≡ ys
    tail xs ys e = cc

same_items : (bs cs : List Block) (fs gs : List Frame) → items bs fs ≡ items cs gs → (bs ≡ cs) × (fs ≡ gs)
same_items [] [] fs gs e = (refl, same_frames fs gs e)
same_items [] (c ∷ cs) [] gs e = absurd (none (items cs gs) e)
  where
    none : (xs : List Item) → items [] [] ≡ cons (metadata c) xs → ⊥
    none xs e = absurd cc
same_items [] (c ∷ cs) (f ∷ fs) gs e = absurd (other (map frame fs) (items cs gs) e)
  where
    other : (xs ys : List Item) → cons (frame f) xs ≡ cons (metadata c) ys → ⊥
    other xs ys e = absurd cc
same_items (b ∷ bs) [] fs [] e = absurd (none (items bs fs) e)
  where
    none : (xs : List Item) → cons (metadata b) xs ≡ items [] [] → ⊥
    none xs e = absurd cc
same_items (b ∷ bs) [] fs (g ∷ gs) e = absurd (other (items bs fs) (map frame gs) e)
  where
    other : (xs ys : List Item) → cons (metadata b) xs ≡ cons (frame g) ys → ⊥
    other xs ys e = absurd cc
same_items (b ∷ bs) (c ∷ cs) fs gs e =
    let r = same_items bs cs fs gs (tail (items bs fs) (items cs gs) e) in
    (ap (λ k. k ∷ bs) (head (items bs fs) (items cs gs) e) ∙ ap (λ ks. c ∷ ks) r.0, r.1)
  where
    head : (xs ys : List Item) → cons (metadata b) xs ≡ cons (metadata c) ys → b ≡ c
    head xs ys e = cc

    tail : (xs ys : List Item) → cons (metadata b) xs ≡ cons (metadata c) ys → xs ≡ ys
    tail xs ys e = cc

-- and the parts of a stream yield its blocks and its frames
frames_handed : (fs : List Frame) → items_of (map framed fs) ≡ map frame fs
frames_handed [] = refl
frames_handed (f ∷ fs) = ap (λ k. frame f ∷ k) (frames_handed fs)

pub parts_handed : (bs : List Block) (fs : List Frame) → items_of (closing bs ++ map framed fs) ≡ items bs fs
parts_handed [] fs = frames_handed fs
parts_handed (b ∷ bs) fs = ap (λ k. metadata b ∷ k) (parts_handed bs fs)

-- ---- the law

abbrev first : Mark
first = beginning Truncated

pub head_long : (profile : Profile) (info : Info) (list : List Block) (head : List Bool) → Joined grammar (opening profile) first (head_parts info list) head → length head < 8 * 2 ^ 64 → 8 * frames_start (block_of.StreamInfo info ∷ list) ≡ length head
head_long profile info list head (front, rest, split, spelled, fits, more) few =
    let blocks : List Block = block_of.StreamInfo info ∷ list in
    let c = closed (block_of.StreamInfo info) list in
    let over = closing_ends (next (opening profile) marked) (block_of.StreamInfo info) list in
    let joins = subst (λ k. Joined grammar (next (opening profile) marked) (past front (fresh first)) k rest) c.parts more in
    let ends = subst (λ k. (state_after grammar (next (opening profile) marked) k).stand.phase ≡ (state_after grammar (next (opening profile) marked) (closing blocks)).stand.phase) c.parts refl ∙ over in
    let o = are_ordered profile (past front (fresh first)) c.list rest (record { spelled = joins; over = ends }) in
    let four = (marker_there (opening profile).stand (fresh first) front marked refl spelled).1 in
    let whole : length head ≡ length front + length rest = ap bits_in split ∙ length-append front rest in
    let n = blocks_long 4 c.list rest o.order.each o.spelled (omega (arith, four, whole, few)) in
    let last : 8 * 4 + length rest ≡ length head = omega (arith, four, whole) in
    ap (λ k. 8 * and_blocks 4 k) (sym c.blocks) ∙ n ∙ last

pub same_front : (xs ys us vs : List Bool) → xs ++ ys ≡ us ++ vs → length xs ≡ length us → xs ≡ us
same_front xs ys us vs e long = sym (take-append_seam xs ys) ∙ ap (take (length xs)) e ∙ ap (λ n. take n (us ++ vs)) long ∙ take-append_seam us vs

pub frames_start_there : FramesStart
unfolding first_info
frames_start_there profile stream blocks frames info few is told =
    let w = (streams_are_whole profile first is.parts (bits_of stream)).0 is.read in
    let all = valid_after profile first w.info w.list w.begins.head w.begins.spelled in
    let at = head_leaves profile w.info w.list all.1 in
    let list : List Block = block_of.StreamInfo w.info ∷ w.list in
    let both = same_items list blocks w.frames frames (sym (parts_handed list w.frames) ∙ sym (ap items_of w.parts) ∙ is.items) in
    let long : length (bits_of stream) ≡ length w.begins.head + length w.rest = ap bits_in w.begins.stands ∙ length-append w.begins.head w.rest in
    let start : 8 * frames_start list ≡ length w.begins.head = head_long profile w.info w.list w.begins.head w.begins.spelled (omega (arith, long, length-bits_of stream, few)) in
    let n = frames_start list in
    let within : n ≤ length stream = omega (arith, start, long, length-bits_of stream) in
    let same : w.begins.head ≡ bits_of (take n stream) =
    same_front w.begins.head w.rest (bits_of (take n stream)) (bits_of (drop n stream)) (sym w.begins.stands ∙ ap bits_of (sym (take-append-drop n stream)) ∙ bits_of-append (take n stream) (drop n stream))
    (omega (arith, start, length-bits_of (take n stream), length-take n stream, within)) in
    let spelled : Joined grammar (opening profile) first (head_parts w.info w.list) (bits_of (take n stream)) = subst (λ t. Joined grammar (opening profile) first (head_parts w.info w.list) t) same w.begins.spelled in
    record {
      front = head_parts w.info w.list;
      whole = subst (λ k. Stream grammar (opening profile) first (head_parts w.info w.list ++ map framed k) (bits_of stream)) both.1 (subst (λ k. Stream grammar (opening profile) first k (bits_of stream)) w.parts is.read);
      before = subst (λ k. Joined grammar (opening profile) first (head_parts w.info w.list) (bits_of (take (frames_start k) stream))) both.0 spelled;
      known = at.info ∙ ap first_info both.0 ∙ told;
    }
