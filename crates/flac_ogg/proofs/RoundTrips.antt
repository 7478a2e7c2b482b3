-- What is encoded is read again, and as nothing else.
use Rattle.std.proofs.Common.{◌≡◌, ℕ, suc, ◌+◌, ◌/◌, ◌<◌, Bool, true, false, nat_eq, List, [], ◌∷◌, ◌++◌, length, map, Option, Some, None, Result, Ok, Err, refl, sym, ap, subst, ◌∙◌, arith}
use Rattle.std.specs.List.{flat_map, range_with_len}
use Rattle.std.proofs.lemmas.List.Concat.{flat_map-cons}
use Rattle.flac_bits.specs.Bits.{unsigned, bits_of, is_nil}
use Rattle.flac_bits.specs.Items.{Stream}
use Rattle.flac_bits.specs.State.{Cursor}
use Rattle.flac_bits.specs.Forms.{AreBytes}
use Rattle.flac_bits.specs.Handing.{InputReading, ReadsOnce, by_grammar}
use Rattle.flac_bits.specs.Layout.{Reason, number_at}
use Rattle.flac_bits.specs.declared.why.Why.TheVariants.{Truncated}
use Rattle.flac_bits.proofs.Readings.{at_, number_again}
use Rattle.flac_meta.specs.declared.block.Block.{Block}
use Rattle.flac_frame.specs.Audio.{Sound}
use Rattle.flac_native.specs.Decoding.{beginning}
use Rattle.flac_native.specs.Stream.{Piece, grammar, opening}
use Rattle.flac_native.specs.Given.{Cut, given}
use Rattle.flac_native.specs.Seeking.{points_of, table_of}
use Rattle.flac_native.specs.Writing.{Encodes}
use Rattle.flac_native.specs.declared.fault.Place.{Place}
use Rattle.flac_native.proofs.Deciding.{one_answer}
use Rattle.flac_pages.specs.Page as page_of
use Rattle.flac_pages.specs.Page.{Page}
use Rattle.flac_pages.specs.Placed as placed
use Rattle.flac_pages.specs.Placed.{Placed, pages_from, marks_of, sequence_after}
use Rattle.flac_pages.specs.Written.{pages_of_packet, page_at}
use Rattle.flac_pages.specs.declared.writing.PacketMarks.{PacketMarks}
use Rattle.flac_ogg.specs.Decoding.{ogg_reading}
use Rattle.flac_ogg.specs.Either.{begins_page, by_first_byte, read_any}
use Rattle.flac_ogg.specs.Verifying.{bytes_reading}
use Rattle.flac_ogg.specs.Stream.{OggStream}
use Rattle.flac_ogg.specs.Writing.{ArePackets, EncodesOgg}
use Rattle.flac_ogg.specs.RoundTrip.{IsJust, EncodedOggIsRead, ogg_items, NativeBytes, OggBytes, EncodedBytes}
use Rattle.flac_ogg.proofs.MeaningReadings.{one_ogg_reading}

-- ---- read as nothing else

-- where an input has one reading, a stream of some items is one of just these
pub is_just : (r : InputReading Piece Place) (items : List Piece) → ReadsOnce r → r.whole items → IsJust r items
is_just r items once whole = record {
  whole = whole;
  only = λ others o. once.streams others items o whole;
  accepted = λ before at why o. once.either items before at why whole o;
}

pub encoded_ogg_is_read : EncodedOggIsRead
encoded_ogg_is_read serial p list a before after e = is_just (ogg_reading p.profile (beginning Truncated) (placed.stream_spelling serial e.packets)) _ (one_ogg_reading p.profile _ _) e.stream

-- ---- the first byte

-- bytes that begin with a byte's bits begin with that byte
record Front (bytes : List ℕ) (b : ℕ) : Type 0 where
  pub rest : List Bool
  pub text : bits_of bytes ≡ unsigned 8 b ++ rest

value_of : Result (ℕ × Cursor) Reason → ℕ
value_of (Ok x) = x.0
value_of (Err e) = 0

first_byte : (bytes : List ℕ) (b : ℕ) → AreBytes bytes → b < 256 → Front bytes b → begins_page bytes ≡ nat_eq b 79
unfolding value_of
first_byte [] b are small f = absurd (omega (arith, ap (λ (k : List Bool). length k) f.text))
first_byte (x ∷ xs) b are small f =
    let m = beginning Truncated in
    let known = number_again 8 x (bits_of xs) m (omega (arith, are.0)) in
    let asked = number_again 8 b f.rest m (omega (arith, small)) in
    let joined = sym known ∙ ap (λ (k : List Bool). number_at 8 (at_ k m)) f.text ∙ asked in
    let same : x ≡ b = ap value_of joined in
    ap (λ k. nat_eq k 79) same

-- a page begins with 79
page_front : (p : Page) → (rest : List Bool) × (page_of.page_spelling p ≡ unsigned 8 79 ++ rest)
unfolding page_of.page_spelling
page_front p = (_, refl)

pages_front : (p : Page) (ps : List Page) → (rest : List Bool) × (flat_map page_of.page_spelling (p ∷ ps) ≡ unsigned 8 79 ++ rest)
pages_front p ps = let f = page_front p in (f.0 ++ flat_map page_of.page_spelling ps, flat_map-cons page_of.page_spelling p ps ∙ ap (λ k. k ++ flat_map page_of.page_spelling ps) f.1)

packet_front : (m : PacketMarks) (packet : List ℕ) (ps : List Page) → (rest : List Bool) × (flat_map page_of.page_spelling (pages_of_packet m packet ++ ps) ≡ unsigned 8 79 ++ rest)
packet_front m packet ps =
    let n = length packet / 65025 in
    let up : suc n ≡ n + 1 = omega arith in
    let f = pages_front (page_at m packet 0) (map (page_at m packet) (range_with_len 1 n) ++ ps) in
    (f.0, subst (λ j. flat_map page_of.page_spelling (map (page_at m packet) (range_with_len 0 j) ++ ps) ≡ unsigned 8 79 ++ f.0) up f.1)

-- and so does an Ogg stream
stream_front : (serial : ℕ) (q : Placed) (qs : List Placed) → (rest : List Bool) × (placed.stream_spelling serial (q ∷ qs) ≡ unsigned 8 79 ++ rest)
unfolding placed.stream_spelling
stream_front serial q qs = packet_front (marks_of serial 0 true (is_nil qs) q) q.packet (pages_from serial (sequence_after 0 q.packet) false qs)

begins_ogg : (serial : ℕ) (p : Cut) (list : List Block) (a : Sound) (bytes : List ℕ) (packets : List Placed) → AreBytes bytes → ArePackets p list a packets → bits_of bytes ≡ placed.stream_spelling serial packets → begins_page bytes ≡ true
begins_ogg serial p list a bytes [] small are is = absurd (omega (arith, ap (λ (x : List (List Bool)). length x) are.texts))
begins_ogg serial p list a bytes (q ∷ qs) small are is =
    let f = stream_front serial q qs in
    first_byte bytes 79 small (omega arith) (record { rest = f.0; text = is ∙ f.1 })

-- the first byte changes no items
just_by_byte : (r : InputReading Piece Place) (items : List Piece) → IsJust r items → IsJust (by_first_byte r) items
just_by_byte r items just = record { whole = just.whole; only = just.only; accepted = just.accepted }

-- ---- in memory

pub ogg_bytes : (serial : ℕ) (p : Cut) (list : List Block) (a : Sound) (bytes : List ℕ) → AreBytes bytes → EncodesOgg serial p list a [] (bits_of bytes) → OggBytes serial p list a bytes
ogg_bytes serial p list a bytes small e =
    let items = ogg_items p list a e.are.least e.are.greatest in
    let page : begins_page bytes ≡ true = begins_ogg serial p list a bytes e.packets small e.are e.written in
    let whole : OggStream p.profile (beginning Truncated) items (bits_of bytes) = subst (λ k. OggStream p.profile (beginning Truncated) items k) (sym e.written) e.stream in
    let just = is_just (ogg_reading p.profile (beginning Truncated) (bits_of bytes)) items (one_ogg_reading p.profile _ _) whole in
    record {
      encodes = e;
      container = page;
      read = subst (λ k. IsJust (read_any p.profile k (beginning Truncated) (bits_of bytes)) items) (sym page) (just_by_byte _ items just);
    }

pub native_bytes : (p : Cut) (list : List Block) (a : Sound) (bytes : List ℕ) → AreBytes bytes → Encodes p list a [] (bits_of bytes) → NativeBytes p list a bytes
native_bytes p list a bytes small e =
    let items = given p (list ++ table_of (points_of p e.frames)) a e.least e.greatest in
    let marker : begins_page bytes ≡ false = first_byte bytes 102 small (omega arith) (record { rest = _; text = e.written }) in
    let whole : Stream grammar (opening p.profile) (beginning Truncated) items (bits_of bytes) = subst (λ k. Stream grammar (opening p.profile) (beginning Truncated) items k) (sym e.written) e.stream in
    let just = is_just (by_grammar grammar (opening p.profile) (beginning Truncated) (bits_of bytes)) items (one_answer (opening p.profile) (beginning Truncated) (bits_of bytes)) whole in
    record {
      encodes = e;
      container = marker;
      read = subst (λ k. IsJust (read_any p.profile k (beginning Truncated) (bits_of bytes)) items) (sym marker) (just_by_byte _ items just);
    }

-- so they are a stream of some items
pub read_whole : (serial : Option ℕ) (p : Cut) (list : List Block) (a : Sound) (bytes : List ℕ) → EncodedBytes serial p list a bytes → (items : List Piece) × IsJust (bytes_reading p.profile bytes) items
read_whole None p list a bytes e = (_, e.read)
read_whole (Some serial) p list a bytes e = (_, e.read)
