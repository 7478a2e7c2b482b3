-- All packets of what is encoded, and the Ogg stream of them.
use Rattle.std.proofs.Common.{◌≡◌, ℕ, ◌^◌, ◌<◌, Bool, true, List, [], ◌∷◌, ◌++◌, length, length-append, append-nil, map, get_or, nat_eq, None, refl, sym, ap, subst, ◌∙◌, arith}
use Rattle.std.specs.List.{All}
use Rattle.std.proofs.lemmas.Bool.Decides.{nat_tests}
use Rattle.flac_bits.specs.Bits.{bits_of, is_nil}
use Rattle.flac_bits.specs.State.{Mark, past}
use Rattle.flac_bits.specs.Forms.{IsBytes}
use Rattle.flac_bits.specs.declared.why.Why.TheVariants.{Truncated}
use Rattle.flac_bits.proofs.Meaning.{past-short}
use Rattle.flac_bits.proofs.Holding.{length-bits_of}
use Rattle.flac_info.specs.Info.{Info}
use Rattle.flac_meta.specs.Listed.{list_fault, info_seen}
use Rattle.flac_meta.specs.Spelling as s
use Rattle.flac_meta.specs.Valid.{AllAre, FitsFields}
use Rattle.flac_meta.specs.declared.block.Block.{Block}
use Rattle.flac_meta.specs.declared.block.Block.TheVariants as block_of
use Rattle.flac_header.specs.declared.subset.Profile.{Profile}
use Rattle.flac_frame.specs.Audio.{Sound}
use Rattle.flac_native.specs.Decoding.{beginning}
use Rattle.flac_native.specs.Stream.{Piece}
use Rattle.flac_native.specs.Given.{Cut, fits_plan, plan_fault, info_of, sound_message}
use Rattle.flac_native.proofs.BlocksWritten.{nil_is}
use Rattle.flac_native.proofs.Digests.{digest_is_bytes}
use Rattle.flac_native.proofs.WholeBytes.{length-joined, header_long, info_long}
use Rattle.flac_pages.specs.Pages.{closed, end_fault, unless_over}
use Rattle.flac_pages.specs.Packets.{at_page}
use Rattle.flac_pages.specs.Placed.{Placed, IsPlaced, stream_pages, stream_spelling}
use Rattle.flac_pages.proofs.PlacedPages.{written_pages_are_good}
use Rattle.flac_ogg.specs.Stream.{OggStream}
use Rattle.flac_ogg.specs.Native.{mapping_spelling, AreStream}
use Rattle.flac_ogg.specs.Writing.{ArePackets, EncodesOgg, BeginsOgg, header_count}
use Rattle.flac_ogg.proofs.NativeFrames.{encoded_are_ogg_items}
use Rattle.flac_ogg.proofs.Packing.{mapping_long}

-- ---- the first packet has 51 bytes

pub block_long : (last : Bool) (i : Info) → IsBytes 16 i.digest → length (s.block_spelling last (block_of.StreamInfo i)) ≡ 304
unfolding s.block_spelling s.content_spelling
block_long last i is = omega (arith, length-joined (s.header_spelling last 0 (s.length_of (block_of.StreamInfo i)) ∷ s.info_spelling i ∷ []), header_long last 0 (s.length_of (block_of.StreamInfo i)), info_long i is.many)

first_size : (count : ℕ) (last : Bool) (p : Cut) (a : Sound) (least greatest : ℕ) (packet : List ℕ) → bits_of packet ≡ mapping_spelling count ++ s.block_spelling last (block_of.StreamInfo (info_of p a least greatest)) → length packet ≡ 51
first_size count last p a least greatest packet is =
    let i = info_of p a least greatest in
    omega (arith, length-bits_of packet, ap (λ (k : List Bool). length k) is, length-append (mapping_spelling count) (s.block_spelling last (block_of.StreamInfo i)), mapping_long count, block_long last i (digest_is_bytes (sound_message a)))

-- its bits, where STREAMINFO is the last block if there are no others
pub first_text : (bs list : List Block) (info i : Info) (text : List Bool) → bs ≡ list → info ≡ i → text ≡ mapping_spelling (header_count (length bs)) ++ s.block_spelling (nat_eq (length bs) 0) (block_of.StreamInfo info)
    → text ≡ mapping_spelling (header_count (length list)) ++ s.block_spelling (is_nil list) (block_of.StreamInfo i)
first_text bs list info i text blocks same is =
    is ∙ ap (λ (l : List Block). mapping_spelling (header_count (length l)) ++ s.block_spelling (nat_eq (length l) 0) (block_of.StreamInfo info)) blocks
    ∙ ap (λ j. mapping_spelling (header_count (length list)) ++ s.block_spelling (nat_eq (length list) 0) (block_of.StreamInfo j)) same
    ∙ ap (λ k. mapping_spelling (header_count (length list)) ++ s.block_spelling k (block_of.StreamInfo i)) (sym (nil_is list))

-- ---- the stream

ends_well : (m : Mark) → m.short ≡ Truncated → end_fault (record { left = []; mark = m }) ≡ None
unfolding end_fault
ends_well m is = ap unless_over is

pub ogg_stream : (profile : Profile) (serial : ℕ) (q : Placed) (qs : List Placed) (items : List Piece) → serial < 2 ^ 32 → length q.packet ≡ 51 → All IsPlaced (q ∷ qs) → AreStream profile (map (λ x. x.packet) (q ∷ qs)) items
    → OggStream profile (beginning Truncated) items (stream_spelling serial (q ∷ qs))
ogg_stream profile serial q qs items small long good are =
    let m = beginning Truncated in
    let text = stream_spelling serial (q ∷ qs) in
    let h = written_pages_are_good serial q qs m small long good in
    record {
      contents = record {
        run = record { pages = stream_pages serial (q ∷ qs); stop = closed (record { left = []; mark = past text m }) };
        is_run = record { text = text; rest = []; stands = sym (append-nil text); good = h.good; ends = (h.final, refl) };
        packets = map (λ x. x.packet) (q ∷ qs);
        begun = [];
        packed = h.just;
      };
      no_fault = ap (λ o. at_page (length (stream_pages serial (q ∷ qs))) o) (ends_well (past text m) (past-short text m));
      no_part = refl;
      spelled = are.spelled;
      ends = are.ends;
      kept = are.kept;
    }

pub count_small : (n : ℕ) → header_count n < 2 ^ 16
count_small n = grind (arith, nat_tests)

pub encodes_ogg : (serial : ℕ) (p : Cut) (list : List Block) (a : Sound) (packets : List Placed) (before : List Bool) → serial < 2 ^ 32 → plan_fault p ≡ None → fits_plan p a ≡ true
    → list_fault info_seen list ≡ None → AllAre FitsFields list → All IsPlaced packets → ArePackets p list a packets → EncodesOgg serial p list a before (before ++ stream_spelling serial packets)
encodes_ogg serial p list a [] before small planned fits may fields good are = absurd (omega (arith, ap (λ (x : List (List Bool)). length x) are.texts))
encodes_ogg serial p list a (q ∷ qs) before small planned fits may fields good are =
    let count = header_count (length list) in
    let first : bits_of q.packet ≡ mapping_spelling count ++ s.block_spelling (is_nil list) (block_of.StreamInfo (info_of p a are.least are.greatest)) = ap (λ (t : List (List Bool)). get_or t 0 []) are.texts in
    let long = first_size count (is_nil list) p a are.least are.greatest q.packet first in
    let items = encoded_are_ogg_items p list a are.least are.greatest count are.frames (map (λ x. x.packet) (q ∷ qs)) planned fits may fields are.are are.sizes (count_small (length list)) are.texts in
    record { packets = q ∷ qs; are = are; written = refl; stream = ogg_stream p.profile serial q qs _ small long good items }

-- ---- what of it was sent

-- all of it
pub all_sent : (serial : ℕ) (p : Cut) (list : List Block) (a : Sound) (text old new : List Bool) → EncodesOgg serial p list a old (old ++ text) → new ≡ old ++ text → EncodesOgg serial p list a old new
all_sent serial p list a text old new e is = subst (EncodesOgg serial p list a old) (sym is) e

-- the first of it
pub some_sent : (serial : ℕ) (p : Cut) (list : List Block) (a : Sound) (text front rest old new : List Bool) → EncodesOgg serial p list a old (old ++ text) → text ≡ front ++ rest → new ≡ old ++ front → BeginsOgg serial p list a old new
some_sent serial p list a text front rest old new e cut is = record { front = front; rest = rest; written = is; encodes = subst (λ k. EncodesOgg serial p list a old (old ++ k)) cut e }
