-- A whole stream that is sent: header packets, and frames after them.
use Rattle.std.proofs.Common.{◌≡◌, ℕ, zero, suc, ◌+◌, ◌^◌, ◌<◌, ◌≤◌, Bool, true, false, List, [], ◌∷◌, ◌++◌, length, map, None, refl, sym, ap, subst, ◌∙◌, arith, append_assoc, Result, Err, ◌⊎◌, inl, inr, replicate}
use Rattle.std.specs.List.{All, flat_map}
use Rattle.std.proofs.lemmas.List.{append-nil, length-map}
use Rattle.std.proofs.lemmas.List.Elements.{All-append}
use Rattle.flac_bits.specs.Bits.{bits_of, is_nil}
use Rattle.flac_bits.specs.Sending.{Sends}
use Rattle.flac_bits.specs.declared.target.Target as target
use Rattle.flac_bits.specs.declared.why.Why.{Why}
use Rattle.flac_meta.specs.Listed.{list_fault, info_seen}
use Rattle.flac_meta.specs.Spelling as s
use Rattle.flac_meta.specs.Valid.{AllAre, FitsFields}
use Rattle.flac_meta.specs.declared.block.Block.{Block}
use Rattle.flac_meta.specs.declared.block.Block.TheVariants as block_of
use Rattle.flac_meta.specs.declared.seek_table.SeekPoint.{SeekPoint}
use Rattle.flac_frame.specs.Audio.{Sound, samples_each}
use Rattle.flac_native.specs.Given.{Cut, fits_plan, plan_fault, blocks_in, frame_of, info_of}
use Rattle.flac_native.specs.Writing.{SpellsFrame, AreFrames, AreLeastFrames, AreCounted}
use Rattle.flac_native.proofs.Encoded.{least_part}
use Rattle.flac_native.proofs.Gathered.{nth, still_some}
use Rattle.flac_native.proofs.Spelled.{came_out, sends_bits, bits_then, bits_fault, alike}
use Rattle.flac_pages.specs.declared.writing.PacketKind.{PacketKind}
use Rattle.flac_pages.specs.declared.writing.PacketKind.TheVariants.{Header}
use Rattle.flac_pages.specs.Page.{page_spelling}
use Rattle.flac_pages.specs.Placed.{Placed, IsPlaced, pages_from, stream_spelling}
use Rattle.flac_ogg.specs.Headers.{AreHeaders}
use Rattle.flac_ogg.specs.Listed.{texts_of, kinds_in}
use Rattle.flac_ogg.specs.Native.{mapping_spelling, block_spellings, packet_spellings}
use Rattle.flac_ogg.specs.Held.{open_from, number_after}
use Rattle.flac_ogg.specs.Writing.{header_count, frames_to, ArePackets, EncodesOgg}
use Rattle.flac_ogg.specs.inner.Writing.{SendsPackets, SendsOgg}
use Rattle.flac_ogg.specs.declared.headers.Headers.{Headers}
use Rattle.flac_ogg.proofs.Listing.{texts_append, kinds_append}
use Rattle.flac_ogg.proofs.OpenPages.{is_first}
use Rattle.flac_ogg.proofs.Packing.{count_blocks}
use Rattle.flac_ogg.proofs.SentPackets.{after_open, packed, texts_packed, kinds_packed, good_packed, spelled_whole}
use Rattle.flac_ogg.proofs.Whole.{encodes_ogg}
use Rattle.flac_native.specs.Sent.{SendsBits}

none_or_some : (n : ℕ) → (n ≡ 0) ⊎ (0 < n)
none_or_some zero = inl refl
none_or_some (suc n) = inr (omega arith)

-- ---- the pages

module _ (h : Headers) (first : List Bool) (texts : List (List Bool)) (are : AreHeaders (first ∷ texts) h) where
  abbrev written : List Bool
  written = bits_of h.sent.items

  abbrev middle : List Bool
  middle = bits_of h.held.middle.items

  abbrev last : List Bool
  last = bits_of h.held.last.items

  abbrev after : List Placed → List Bool
  after ps = flat_map page_spelling (pages_from h.serial h.held.next false ps)

  not_none : (ps : List Placed) → texts_of ps ≡ first ∷ texts → is_first true ps ≡ false
  not_none [] e = absurd (omega (arith, ap (λ (x : List (List Bool)). length x) e))
  not_none (p ∷ ps) e = refl

  -- with frames after them
  some_pages : (ps : List Placed) → 0 < length ps → (written ++ middle) ++ after ps ≡ stream_spelling h.serial (are.packets ++ ps)
  unfolding stream_spelling
  some_pages [] some = absurd (omega (arith, some))
  some_pages (q ∷ qs) some =
      let front : List Bool = open_from h.serial 0 true are.packets in
      ap (λ t. t ++ after (q ∷ qs)) are.pages.middle_is ∙ ap (λ k. front ++ flat_map page_spelling (pages_from h.serial k false (q ∷ qs))) are.pages.next
      ∙ sym (after_open h.serial 0 true are.packets q qs ∙ ap (λ f. front ++ flat_map page_spelling (pages_from h.serial (number_after 0 are.packets) f (q ∷ qs))) (not_none are.packets are.texts_are))

  -- alone
  no_pages : written ++ last ≡ stream_spelling h.serial (are.packets ++ [])
  no_pages = are.pages.last_is ∙ ap (stream_spelling h.serial) (sym (append-nil are.packets))

  module _ {S : Type 0} (g : target.Ghosts S) (p : Cut) (a : Sound) where
    abbrev total : ℕ
    total = samples_each a.channels

    as_many : (ps : List Placed) (frames : List (List Bool)) → texts_of ps ≡ frames → length ps ≡ length frames
    as_many ps frames e = omega (arith, ap (λ (x : List (List Bool)). length x) e, length-map (map (λ q. q.packet) ps) bits_of, length-map ps (λ q. q.packet))

    -- all of it
    pub stream_sent : {X E : Type 0} (old one two new : S) (r : Result X E) → 0 < blocks_in p.block_size total → SendsBits g written old one came_out → SendsBits g middle one two came_out
        → SendsPackets g h.serial h.held.next p a two new r → SendsOgg g h.serial p a are.packets old new r
    stream_sent old one two new r some s1 s2 w = record {
      frames = w.frames;
      are = w.are;
      are_least = w.are_least;
      packets = w.packets;
      texts = w.texts;
      kinds = w.kinds;
      good = w.good;
      sends = subst (λ k. SendsBits g k old new r) (some_pages w.packets (omega (arith, as_many w.packets w.frames w.texts, w.are.many, some))) (bits_then g r (bits_then g came_out s1 s2) w.sends);
    }

    module _ (others : List (List Bool)) (frames : AreFrames p a others) (least : AreLeastFrames p a others) (few : total < 2 ^ 64) where
      abbrev packets : List Placed
      packets = packed p.block_size total 0 others

      of_others : {X E : Type 0} (old new : S) (r : Result X E) → SendsBits g (stream_spelling h.serial (are.packets ++ packets)) old new r → SendsOgg g h.serial p a are.packets old new r
      of_others old new r sends =
          let whole = spelled_whole p a others 0 (λ j lt. let e : j ≡ 0 + j = omega arith in subst (λ n. SpellsFrame a (frame_of p.block_size a n) (nth others j)) e (frames.each j lt)) in
          let count : 0 + length others ≡ blocks_in p.block_size total = omega (arith, frames.many) in
          record {
            frames = others;
            are = frames;
            are_least = least;
            packets = packets;
            texts = texts_packed p.block_size total 0 others whole;
            kinds = kinds_packed p.block_size total 0 others ∙ ap (frames_to p.block_size total) count;
            good = good_packed p.block_size total 0 others few whole;
            sends = sends;
          }

      same_long : length packets ≡ blocks_in p.block_size total
      same_long = go p.block_size 0 others ∙ frames.many
        where
          go : (b n : ℕ) (ts : List (List Bool)) → length (packed b total n ts) ≡ length ts
          go b n [] = refl
          go b n (t ∷ ts) = ap suc (go b (suc n) ts)

      none_packed : blocks_in p.block_size total ≡ 0 → packets ≡ []
      none_packed e = go packets (same_long ∙ e)
        where
          go : (ps : List Placed) → length ps ≡ 0 → ps ≡ []
          go [] k = refl
          go (q ∷ qs) k = absurd (omega (arith, k))

      -- no frames follow
      pub alone_sent : {X E : Type 0} (old one new : S) (r : Result X E) → blocks_in p.block_size total ≡ 0 → SendsBits g written old one came_out → SendsBits g last one new r → SendsOgg g h.serial p a are.packets old new r
      alone_sent old one new r none s1 s2 =
          of_others old new r (subst (λ k. SendsBits g k old new r) (no_pages ∙ ap (λ ps. stream_spelling h.serial (are.packets ++ ps)) (sym (none_packed none))) (bits_then g r s1 s2))

      -- the last of the header packets was not sent whole
      pub middle_failed : {X Y : Type 0} (old one new : S) (e f : Why) → 0 < blocks_in p.block_size total → SendsBits g written old one came_out → SendsBits {X = X} g middle one new (Err e) → SendsOgg {X = Y} g h.serial p a are.packets old new (Err f)
      middle_failed {Y = Y} old one new e f some s1 s2 =
          of_others old new (Err f) (subst (λ k. SendsBits {X = Y} g k old new (Err f)) (some_pages packets (omega (arith, same_long, some))) (bits_fault g (after packets) (bits_then g (Err e) s1 s2)))

      -- the others were not
      pub written_failed : {X Y : Type 0} (old new : S) (e f : Why) → SendsBits {X = X} g written old new (Err e) → SendsOgg {X = Y} g h.serial p a are.packets old new (Err f)
      written_failed {Y = Y} old new e f sends = elim (none_or_some (blocks_in p.block_size total)) [
        | inl none ↦ of_others old new (Err f) (subst (λ k. SendsBits {X = Y} g k old new (Err f)) (no_pages ∙ ap (λ ps. stream_spelling h.serial (are.packets ++ ps)) (sym (none_packed none))) (bits_fault g last sends))
        | inr some ↦
            of_others old new (Err f) (subst (λ k. SendsBits {X = Y} g k old new (Err f)) (sym (append_assoc written middle (after packets)) ∙ some_pages packets (omega (arith, same_long, some))) (bits_fault g (middle ++ after packets) sends))
      ]

-- ---- what it is

two_parts : (count : ℕ) (list : List Block) (p : Cut) (a : Sound) (least greatest : ℕ) (hs ps : List Placed) (frames : List (List Bool)) → texts_of hs ≡ packet_spellings count (info_of p a least greatest) list [] → texts_of ps ≡ frames
    → texts_of (hs ++ ps) ≡ packet_spellings count (info_of p a least greatest) list frames
two_parts count list p a least greatest hs ps frames e f =
    let first : List Bool = mapping_spelling count ++ s.block_spelling (is_nil list) (block_of.StreamInfo (info_of p a least greatest)) in
    texts_append hs ps ∙ ap (λ (t : List (List Bool)). t ++ texts_of ps) e ∙ ap (λ (t : List (List Bool)). (first ∷ (block_spellings list ++ [])) ++ t) f ∙ ap (λ (t : List (List Bool)). (first ∷ t) ++ frames) (append-nil (block_spellings list))

-- what was sent are all packets of what was given
pub are_all : {S X E : Type 0} (g : target.Ghosts S) (p : Cut) (list : List Block) (a : Sound) (least greatest : ℕ) (points : List SeekPoint) (h : Headers) (are : AreHeaders (packet_spellings (header_count (length list)) (info_of p a least greatest) list []) h)
    (old new : S) (r : Result X E) → AreCounted p a least greatest points → (w : SendsOgg g h.serial p a are.packets old new r) → ArePackets p list a (are.packets ++ w.packets) × All IsPlaced (are.packets ++ w.packets)
are_all g p list a least greatest points h are old new r e w =
    let k = alike p a w.frames e.frames least greatest w.are w.are_least e.are e.are_least e.sizes in
    let count : ℕ = header_count (length list) in
    let total = samples_each a.channels in
    let many : length (packet_spellings count (info_of p a least greatest) list []) ≡ length list + 1 = omega (arith, ap (λ (t : List (List Bool)). length t) (append-nil (block_spellings list)), count_blocks list) in (
      record {
        least = least;
        greatest = greatest;
        frames = w.frames;
        are = w.are;
        are_least = w.are_least;
        sizes = k.0;
        texts = two_parts count list p a least greatest are.packets w.packets w.frames are.texts_are w.texts;
        kinds = kinds_append are.packets w.packets ∙ ap (λ (t : List PacketKind). t ++ kinds_in w.packets) (are.kinds_are ∙ ap (λ n. replicate n Header) many)
            ∙ ap (λ (t : List PacketKind). replicate (length list + 1) Header ++ t) w.kinds;
      },
      All-append IsPlaced are.packets w.packets are.good w.good,
    )

-- ---- how many frames

pub no_blocks : (b total : ℕ) → 16 ≤ b → total ≡ 0 → blocks_in b total ≡ 0
no_blocks b total some e = go (blocks_in b total) refl
  where
    go : (n : ℕ) → blocks_in b total ≡ n → blocks_in b total ≡ 0
    go zero k = k
    go (suc n) k = absurd (omega (arith, least_part b total n some (omega (arith, k)), e))

pub some_blocks : (b total : ℕ) → 16 ≤ b → 0 < total → 0 < blocks_in b total
some_blocks b total some h = still_some b total 0 some (omega (arith, h))

pub sends_items : {S X E : Type 0} (g : target.Ghosts S) (bytes items : List ℕ) (old new : S) (r : Result X E) → bytes ≡ items → Sends g bytes old new r → SendsBits g (bits_of items) old new r
sends_items g bytes items old new r e s = subst (λ l. SendsBits g (bits_of l) old new r) e (sends_bits g bytes old new r s)

-- so it is an Ogg stream of what was given
pub ogg_encodes : {S X E : Type 0} (g : target.Ghosts S) (p : Cut) (list : List Block) (a : Sound) (least greatest : ℕ) (points : List SeekPoint) (h : Headers) (are : AreHeaders (packet_spellings (header_count (length list)) (info_of p a least greatest) list []) h)
    (old new : S) (r : Result X E) (before : List Bool) → h.serial < 2 ^ 32 → plan_fault p ≡ None → fits_plan p a ≡ true → list_fault info_seen list ≡ None → AllAre FitsFields list → AreCounted p a least greatest points
    → (w : SendsOgg g h.serial p a are.packets old new r) → EncodesOgg h.serial p list a before (before ++ stream_spelling h.serial (are.packets ++ w.packets))
ogg_encodes g p list a least greatest points h are old new r before small good fits may fields e w =
    let k = are_all g p list a least greatest points h are old new r e w in
    encodes_ogg h.serial p list a (are.packets ++ w.packets) before small good fits may fields k.1 k.0
