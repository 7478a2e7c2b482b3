-- How long an Ogg stream is at most (RFC 3533, section 6; RFC 9639, section 10.1).
use Rattle.std.proofs.Common.{◌≡◌, ◌∙◌, refl, sym, ap, ℕ, ℤ, zero, suc, ◌+◌, ◌-◌, ◌*◌, ◌/◌, ◌%◌, ◌≤◌, min, arith, Bool, true, false, List, [], ◌∷◌, ◌++◌, length, length-append, length-take, length-drop, map, drop, flat_map, replicate, None}
use Rattle.std.specs.Int.{to_le_bytes, w32, w64}
use Rattle.std.specs.List.{range_with_len}
use Rattle.std.proofs.lemmas.List.{length-map, length-replicate}
use Rattle.std.proofs.lemmas.List.Concat.{flat_map-cons, flat_map-append}
use Rattle.flac_bits.specs.Bits.{bits_of, is_nil}
use Rattle.flac_bits.specs.Forms.{joined}
use Rattle.flac_bits.proofs.Holding.{length-bits_of}
use Rattle.flac_meta.specs.Listed.{list_fault, info_seen}
use Rattle.flac_meta.specs.Spelling.{block_spelling, comments_length}
use Rattle.flac_meta.specs.declared.block.Block.TheVariants.{StreamInfo, VorbisComment}
use Rattle.flac_frame.specs.Audio.{Sound, samples_each}
use Rattle.flac_subframe.specs.declared.format.linear.LinearPredictor.{LinearPredictor}
use Rattle.flac_native.specs.Given.{Cut, info_of, sound_message, with_found}
use Rattle.flac_native.proofs.Digests.{digest_is_bytes}
use Rattle.flac_native.proofs.WholeBytes.{length-joined}
use Rattle.flac_pages.specs.declared.writing.PacketMarks.{PacketMarks}
use Rattle.flac_pages.specs.Page.{Page, page_spelling}
use Rattle.flac_pages.specs.Packets.{lacing_of}
use Rattle.flac_pages.specs.Placed.{Placed, marks_of, sequence_after, pages_from, stream_spelling}
use Rattle.flac_pages.specs.Written.{page_at, pages_of_packet}
use Rattle.flac_ogg.specs.Listed.{texts_of}
use Rattle.flac_ogg.specs.Native.{mapping_spelling}
use Rattle.flac_ogg.specs.Writing.{ArePackets, header_count}
use Rattle.flac_ogg.proofs.Packing.{mapping_long}
use Rattle.flac_ogg.proofs.Whole.{block_long}
use Rattle.flac_c.specs.Bound.{most_parts, native_bound}
use Rattle.flac_c.specs.Encoded.{sound_of, plan_of, comments_of, blocks_of, CanBeEncoded}
use Rattle.flac_c.specs.declared.tags.FlacProvedTags.{FlacProvedTags}
use Rattle.flac_c.specs.declared.encoding.FlacProvedSettings.{FlacProvedSettings}
use Rattle.flac_c.proofs.LongestHeads.{comment_long, comments_counted, parts_few, parts_are}
use Rattle.flac_c.proofs.LongestStreams.{each_is, frames_few}
use Rattle.flac_header.specs.declared.subset.Profile.{Profile}

-- ---- a packet in pages

-- 27 bytes, the lacing values and the segments
page_long : (p : Page) → length (page_spelling p) ≡ 8 * (27 + length p.lacing + length p.body)
unfolding page_spelling
page_long p =
    omega (
      arith,
      length-joined (
          bits_of (0x4F ∷ 0x67 ∷ 0x67 ∷ 0x53 ∷ 0 ∷ p.head.flags ∷ []) ∷ bits_of (to_le_bytes w64 p.head.granule) ∷ bits_of (to_le_bytes w32 p.head.serial) ∷
          bits_of (to_le_bytes w32 p.head.sequence) ∷ bits_of (to_le_bytes w32 p.head.sum) ∷ bits_of (length p.lacing ∷ []) ∷ bits_of p.lacing ∷ bits_of p.body ∷ []),
      length-bits_of (0x4F ∷ 0x67 ∷ 0x67 ∷ 0x53 ∷ 0 ∷ p.head.flags ∷ []),
      length-bits_of (to_le_bytes w64 p.head.granule),
      length-bits_of (to_le_bytes w32 p.head.serial),
      length-bits_of (to_le_bytes w32 p.head.sequence),
      length-bits_of (to_le_bytes w32 p.head.sum),
      length-bits_of (length p.lacing ∷ []),
      length-bits_of p.lacing,
      length-bits_of p.body,
    )

lacing_long : (packet : List ℕ) → length (lacing_of packet) ≡ length packet / 255 + 1
unfolding lacing_of
lacing_long packet = omega (arith, length-append (replicate (length packet / 255) 255) ((length packet % 255) ∷ []), length-replicate {A = ℕ} (length packet / 255) 255)

module _ (m : PacketMarks) (packet : List ℕ) where
  at_long : (k : ℕ) → length (page_spelling (page_at m packet k)) ≡ 8 * (27 + min 255 (length (lacing_of packet) - 255 * k) + min 65025 (length packet - 65025 * k))
  at_long k =
      let lacing : length (page_at m packet k).lacing ≡ min 255 (length (lacing_of packet) - 255 * k) = length-take 255 (drop (255 * k) (lacing_of packet)) ∙ ap (λ n. min 255 n) (length-drop (255 * k) (lacing_of packet)) in
      let body : length (page_at m packet k).body ≡ min 65025 (length packet - 65025 * k) = length-take 65025 (drop (65025 * k) packet) ∙ ap (λ n. min 65025 n) (length-drop (65025 * k) packet) in
      omega (arith, page_long (page_at m packet k), lacing, body)

  from_long : (n k : ℕ) → length (flat_map page_spelling (map (page_at m packet) (range_with_len k n))) ≤ 8 * (27 * n + (length (lacing_of packet) - 255 * k) + (length packet - 65025 * k))
  from_long zero k = omega arith
  from_long (suc n) k =
      let rest = from_long n (k + 1) in
      omega (
        arith,
        ap (λ (t : List Bool). length t) (flat_map-cons page_spelling (page_at m packet k) (map (page_at m packet) (range_with_len (k + 1) n))),
        length-append (page_spelling (page_at m packet k)) (flat_map page_spelling (map (page_at m packet) (range_with_len (k + 1) n))),
        at_long k,
        rest,
      )

  -- the pages add a two hundredth at most, and 28 bytes
  packet_long : 200 * length (flat_map page_spelling (pages_of_packet m packet)) ≤ 8 * (201 * length packet + 5600)
  packet_long = omega (arith, from_long (length packet / 65025 + 1) 0, lacing_long packet)

-- ---- packets one after another

abbrev bytes_in : List Placed → ℕ
bytes_in [] = 0
bytes_in (p ∷ ps) = length p.packet + bytes_in ps

pages_long : (serial sequence : ℕ) (first : Bool) (ps : List Placed) → 200 * length (flat_map page_spelling (pages_from serial sequence first ps)) ≤ 8 * (201 * bytes_in ps + 5600 * length ps)
pages_long serial sequence first [] = omega arith
pages_long serial sequence first (p ∷ ps) =
    let m : PacketMarks = marks_of serial sequence first (is_nil ps) p in
    let rest = pages_long serial (sequence_after sequence p.packet) false ps in
    omega (
      arith,
      ap (λ (t : List Bool). length t) (flat_map-append page_spelling (pages_of_packet m p.packet) (pages_from serial (sequence_after sequence p.packet) false ps)),
      length-append (flat_map page_spelling (pages_of_packet m p.packet)) (flat_map page_spelling (pages_from serial (sequence_after sequence p.packet) false ps)),
      packet_long m p.packet,
      rest,
    )

paged_long : (serial : ℕ) (ps : List Placed) → 200 * length (stream_spelling serial ps) ≤ 8 * (201 * bytes_in ps + 5600 * length ps)
unfolding stream_spelling
paged_long serial ps = pages_long serial 0 true ps

texts_long : (ps : List Placed) → length (joined (texts_of ps)) ≡ 8 * bytes_in ps
texts_long [] = refl
texts_long (p ∷ ps) = omega (arith, length-append (bits_of p.packet) (joined (texts_of ps)), length-bits_of p.packet, texts_long ps)

texts_many : (ps : List Placed) → length (texts_of ps) ≡ length ps
texts_many ps = length-map (map (λ q. q.packet) ps) bits_of ∙ length-map ps (λ q. q.packet)

-- ---- the stream

close : (whole packets parts frames many bytes : ℕ) → 200 * bytes ≤ 201 * packets + 5600 * many → many ≡ 2 + frames → frames ≤ parts → packets ≤ whole + 1 → bytes ≤ whole + (whole / 200 + 64 * (parts + 2))
close whole packets parts frames many bytes h e few le = omega (arith, h, e, few, le)

pub ogg_few : (profile : Profile) (found : List (List (List LinearPredictor))) (s : FlacProvedSettings) (t : FlacProvedTags) (samples : List ℤ) (can : CanBeEncoded profile s samples) → 16 ≤ s.block_size → list_fault info_seen (blocks_of t) ≡ None
    → (serial : ℕ) (packets : List Placed) → ArePackets (with_found (plan_of s (sound_of profile s samples)) found) (blocks_of t) (sound_of profile s samples) packets
    → (bytes : ℕ) → 8 * bytes ≡ length (stream_spelling serial packets)
    → bytes ≤ native_bound s (length samples) (length samples / s.channels) t + (native_bound s (length samples) (length samples / s.channels) t / 200 + 64 * (most_parts (length samples / s.channels) s.block_size + 2))
ogg_few profile found s t samples can some none serial packets are bytes long =
    let a : Sound = sound_of profile s samples in
    let p : Cut = with_found (plan_of s a) found in
    let each : ℕ = length samples / s.channels in
    let i = info_of p a are.least are.greatest in
    let comments = comments_counted t none in
    let first = mapping_spelling (header_count (length (blocks_of t))) ++ block_spelling false (StreamInfo i) in
    let second = block_spelling true (VorbisComment (comments_of t)) in
    let few = frames_few profile s samples can found are.frames some are.are are.are_least in
    let all : length (joined (texts_of packets)) ≡ length (joined (first ∷ second ∷ are.frames)) = ap (λ (ts : List (List Bool)). length (joined ts)) are.texts in
    let many_texts = ap (λ (ts : List (List Bool)). length ts) are.texts in
    let many : length (texts_of packets) ≡ 2 + length are.frames = omega (arith, many_texts) in
    let inner : length (joined (first ∷ second ∷ are.frames)) ≡ 408 + (32 + 8 * comments_length (comments_of t)) + length (joined are.frames) =
    omega (
      arith,
      length-append first (second ++ joined are.frames),
      length-append second (joined are.frames),
      length-append (mapping_spelling (header_count (length (blocks_of t)))) (block_spelling false (StreamInfo i)),
      mapping_long (header_count (length (blocks_of t))),
      block_long false i (digest_is_bytes (sound_message a)),
      comment_long true (comments_of t),
    ) in
    let whole : ℕ = native_bound s (length samples) each t in
    let short : bytes_in packets ≤ whole + 1 = omega (arith, texts_long packets, all, inner, few, comments.1) in
    let blocks : length are.frames ≤ most_parts each s.block_size = omega (arith, are.are.many, parts_few s.block_size (samples_each a.channels) (omega (arith, some)), parts_are s.block_size each (omega (arith, some)), ap (λ k. k / s.block_size) (each_is profile s samples can)) in
    let paged : 200 * bytes ≤ 201 * bytes_in packets + 5600 * length packets = omega (arith, paged_long serial packets, long) in
    close whole (bytes_in packets) (most_parts each s.block_size) (length are.frames) (length packets) bytes paged (sym (texts_many packets) ∙ many) blocks short
