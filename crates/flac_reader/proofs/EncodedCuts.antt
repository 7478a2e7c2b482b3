-- A stream that encoding wrote is cut at each of its frames, and so at each point of its seek table.
use Rattle.std.proofs.Common.{◌≡◌, ℕ, suc, ◌+◌, ◌*◌, ◌/◌, ◌%◌, ◌<◌, ◌≤◌, Bool, List, [], ◌∷◌, ◌++◌, length, length-append, append_assoc, map, take, drop, refl, sym, ap, subst, ◌∙◌, arith}
use Rattle.std.specs.Prelude.{slice_index_or}
use Rattle.std.proofs.lemmas.List.{length-take, get_or-take, take-append-drop}
use Rattle.flac_bits.specs.Bits.{unsigned, bits_of}
use Rattle.flac_bits.specs.State.{Mark}
use Rattle.flac_bits.specs.Forms.{joined}
use Rattle.flac_bits.specs.Items.{Joined, Stream}
use Rattle.flac_bits.specs.declared.why.Why.TheVariants.{Truncated}
use Rattle.flac_bits.proofs.Holding.{length-bits_of}
use Rattle.flac_meta.specs.Valid.{AllAre}
use Rattle.flac_meta.specs.declared.seek_table.SeekPoint.{SeekPoint}
use Rattle.flac_meta.specs.declared.block.Block.{Block}
use Rattle.flac_meta.specs.declared.block.Block.TheVariants as block_of
use Rattle.flac_meta.proofs.Tied.{joined_append}
use Rattle.flac_frame.specs.Audio.{Sound}
use Rattle.flac_frame.proofs.FrameTie.{frames_bytes}
use Rattle.flac_native.specs.Decoding.{beginning}
use Rattle.flac_native.specs.Stream.{Piece, framed, grammar, opening}
use Rattle.flac_native.specs.Given.{Cut, frames_from, frames_of, given}
use Rattle.flac_native.specs.Seeking.{points_of, table_of}
use Rattle.flac_native.specs.Points.{NamesFrame}
use Rattle.flac_native.specs.Whole.{head_parts}
use Rattle.flac_native.specs.Writing.{blocks_spelling, head_spelling, stream_spelling}
use Rattle.flac_native.proofs.FrameCuts.{head_joined, up_to_frame, given_split}
use Rattle.flac_native.proofs.Sought.{points_name_frames}
use Rattle.flac_reader.specs.Starting.{frames_start}
use Rattle.flac_reader.specs.Seeking.{Cuts}
use Rattle.flac_reader.specs.Encoded.{IsEncoded, stream_info, all_blocks, frame_count, frames_at, bytes_before, FramesAreCut, IsCutAt, PointsAreCut}
use Rattle.flac_reader.proofs.Cuts.{split}
use Rattle.flac_reader.proofs.Starts.{head_long, same_front}

abbrev first : Mark
first = beginning Truncated

abbrev bits_in : List Bool → ℕ
bits_in text = length text

-- frames have whole bytes
whole_joined : (texts : List (List Bool)) → ((j : ℕ) → j < length texts → length (slice_index_or texts j []) % 8 ≡ 0) → length (joined texts) % 8 ≡ 0
whole_joined [] each = refl
whole_joined (t ∷ ts) each =
    let here : length t % 8 ≡ 0 = each 0 (omega arith) in
    let more : length (joined ts) % 8 ≡ 0 = whole_joined ts (λ j h. each (suc j) (omega (arith, h))) in
    omega (arith, length-append t (joined ts), here, more)

-- the offset of a point, as bytes
as_bytes : (offset bits : ℕ) → 8 * offset ≡ bits → bits / 8 ≡ offset
as_bytes offset bits e = omega (arith, e)

module _ (p : Cut) (list : List Block) (a : Sound) (stream : List ℕ) (e : IsEncoded p list a stream) where
  abbrev frames : List (List Bool)
  frames = e.written.frames

  abbrev others : List Block
  others = list ++ table_of (points_of p frames)

  abbrev head : List Bool
  head = head_spelling (stream_info e) others

  abbrev parts : List Piece
  parts = given p others a e.written.least e.written.greatest

  -- its bits
  pub text_is : bits_of stream ≡ stream_spelling p others a e.written.least e.written.greatest frames
  text_is = e.written.written

  pub stream_there : Stream grammar (opening p.profile) first parts (bits_of stream)
  stream_there = subst (λ t. Stream grammar (opening p.profile) first parts t) (sym text_is) e.written.stream

  cut_in_two : bits_of stream ≡ head ++ joined frames
  cut_in_two = text_is ∙ sym (append_assoc (unsigned 32 0x664C6143) (blocks_spelling (block_of.StreamInfo (stream_info e) ∷ others)) (joined frames))

  long : 8 * length stream ≡ length head + length (joined frames)
  long = sym (length-bits_of stream) ∙ ap bits_in cut_in_two ∙ length-append head (joined frames)

  head_there : Joined grammar (opening p.profile) first (head_parts (stream_info e) others) head
  head_there = head_joined p.profile (stream_info e) others (map framed (frames_of p.block_size a)) (stream_spelling p others a e.written.least e.written.greatest frames) e.written.stream.spelled

  start_is : 8 * frames_start (all_blocks e) ≡ length head
  start_is = head_long p.profile (stream_info e) others head head_there (let few = e.few in omega (arith, long, few))

  -- the frames before one
  module _ (number : ℕ) (among : number ≤ frame_count e) where
    abbrev before : List (List Bool)
    before = take number frames

    abbrev at : ℕ
    at = frames_start (all_blocks e) + bytes_before e number

    whole : length (joined before) % 8 ≡ 0
    whole = whole_joined before each
      where
        each : (j : ℕ) → j < length before → length (slice_index_or before j []) % 8 ≡ 0
        each j h =
            let few : j < number = omega (arith, h, length-take number frames) in
            let s = e.written.are.each j (omega (arith, few, among)) in
            ap (λ (t : List Bool). length t % 8) (get_or-take number frames j [] few ∙ s.spelling) ∙ frames_bytes a.bits s.form

    two : joined frames ≡ joined before ++ joined (drop number frames)
    two = ap joined (sym (take-append-drop number frames)) ∙ sym (joined_append before (drop number frames))

    at_is : 8 * at ≡ length (head ++ joined before)
    at_is = omega (arith, start_is, whole, length-append head (joined before))

    pub within : at ≤ length stream
    within =
        let rest : length (joined frames) ≡ length (joined before) + length (joined (drop number frames)) = ap bits_in two ∙ length-append (joined before) (joined (drop number frames)) in
        omega (arith, at_is, long, rest, length-append head (joined before))

    -- the bytes before the cut are the head and these frames
    bytes_are : head ++ joined before ≡ bits_of (take at stream)
    bytes_are =
        let all : (head ++ joined before) ++ joined (drop number frames) ≡ bits_of (take at stream) ++ bits_of (drop at stream) =
        append_assoc head (joined before) (joined (drop number frames)) ∙ ap (λ t. head ++ t) (sym two) ∙ sym cut_in_two ∙ split at stream in
        same_front (head ++ joined before) (joined (drop number frames)) (bits_of (take at stream)) (bits_of (drop at stream)) all
        (omega (arith, at_is, length-bits_of (take at stream), length-take at stream, within))

    pub cut_here : Cuts p.profile stream (stream_info e) at (frames_at e number)
    cut_here =
        let i = stream_info e in
        let w = e.written in
        let front = head_parts i others ++ map framed (frames_from p.block_size a number 0) in
        let r = up_to_frame p others a w.least w.greatest frames number e.planned e.fits w.are w.sizes among head_there in
        record {
          front = front;
          whole = subst (λ k. Stream grammar (opening p.profile) first k (bits_of stream)) (given_split p others a w.least w.greatest (frame_count e) number w.are.many among) stream_there;
          before = subst (λ t. Joined grammar (opening p.profile) first front t) bytes_are r.0;
          known = r.1.info;
        }

pub frames_are_cut : FramesAreCut
frames_are_cut p list a stream e number among = cut_here p list a stream e number among

-- ---- the points of its table

-- what a point names is how many bytes stand before its frame
pub offset_is : (p : Cut) (list : List Block) (a : Sound) (stream : List ℕ) (e : IsEncoded p list a stream) (x : SeekPoint) (n : NamesFrame p e.written.frames x) → x.offset ≡ bytes_before e n.number
offset_is p list a stream e x n = sym (as_bytes x.offset (length (joined (take n.number e.written.frames))) n.offset)

pub points_named : (p : Cut) (list : List Block) (a : Sound) (stream : List ℕ) (e : IsEncoded p list a stream) → AllAre (NamesFrame p e.written.frames) (points_of p e.written.frames)
points_named p list a stream e = (points_name_frames p a e.written.frames e.planned e.fits e.written.are).0

point_cut : (p : Cut) (list : List Block) (a : Sound) (stream : List ℕ) (e : IsEncoded p list a stream) (x : SeekPoint) → NamesFrame p e.written.frames x → IsCutAt e x
point_cut p list a stream e x n =
    let few : n.number ≤ frame_count e = let h = n.among in omega (arith, h) in
    record {
      number = n.number;
      among = n.among;
      sample = n.sample;
      cuts = subst (λ o. Cuts p.profile stream (stream_info e) (frames_start (all_blocks e) + o) (frames_at e n.number)) (sym (offset_is p list a stream e x n)) (cut_here p list a stream e n.number few);
    }

pub points_are_cut : PointsAreCut
points_are_cut p list a stream e = go (points_of p e.written.frames) (points_named p list a stream e)
  where
    go : (points : List SeekPoint) → AllAre (NamesFrame p e.written.frames) points → AllAre (IsCutAt e) points
    go [] all = tt
    go (x ∷ xs) all = (point_cut p list a stream e x all.0, go xs all.1)
