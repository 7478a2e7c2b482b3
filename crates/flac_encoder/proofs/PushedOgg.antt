-- What an encoder of an Ogg stream that samples are pushed to stands for.
use Rattle.std.proofs.Common.{◌≡◌, ℕ, suc, zero, ◌+◌, ◌*◌, ◌^◌, ◌<◌, ◌≤◌, ℤ, Bool, true, false, not, cond, nat_eq, List, [], ◌∷◌, ◌++◌, length, length-append, map, drop, get_or, replicate, Option, Some, None, ◌⊎◌, inl, inr, refl, sym, ap, subst, ◌∙◌, arith, append_assoc}
use Rattle.std.specs.List.{All}
use Rattle.std.proofs.lemmas.Bool.Decides.{nat_tests}
use Rattle.std.proofs.lemmas.List.{append-nil}
use Rattle.std.proofs.lemmas.List.Elements.{All-append}
use Rattle.flac_bits.specs.Bits.{unsigned, bits_of, is_nil}
use Rattle.flac_bits.specs.Forms.{AreBytes, IsBytes, joined}
use Rattle.flac_bits.specs.Meaning.{Spells, AllKept}
use Rattle.flac_bits.specs.Items.{state_after}
use Rattle.flac_bits.specs.Fence.{InRoom}
use Rattle.flac_bits.specs.declared.target.Target as target
use Rattle.flac_bits.specs.declared.why.Why.TheVariants.{Truncated}
use Rattle.flac_bits.proofs.Holding.{length-bits_of, bits_of-append}
use Rattle.flac_info.specs.Info.{Info}
use Rattle.flac_meta.specs.Listed.{list_fault, info_seen}
use Rattle.flac_meta.specs.Spelling.{block_spelling}
use Rattle.flac_meta.specs.Valid.{AllAre, FitsFields, IsInfo}
use Rattle.flac_meta.specs.declared.block.Block.{Block}
use Rattle.flac_meta.specs.declared.block.Block.TheVariants as block_of
use Rattle.flac_header.specs.Header.{channels_of, greatest_in}
use Rattle.flac_subframe.specs.declared.format.linear.LinearPredictor.{LinearPredictor}
use Rattle.flac_frame.specs.Audio.{samples_each}
use Rattle.flac_frame.specs.Frame.{Frame, frame, header_rules, rate_in, depth_in}
use Rattle.flac_frame.specs.declared.before.Before.{Before}
use Rattle.flac_frame.proofs.Encodings.{encodings_are_frames}
use Rattle.flac_frame.proofs.FrameTie.{frames_spelled}
use Rattle.flac_native.specs.Decoding.{beginning}
use Rattle.flac_native.specs.Stream.{Piece, marked, framed, Progress, grammar, next, room_in, may_end_in}
use Rattle.flac_native.specs.declared.track.Phase.{Phase}
use Rattle.flac_native.specs.declared.track.Phase.TheVariants.{Opening, Blocks, Frames}
use Rattle.flac_native.specs.Given.{closing}
use Rattle.flac_encoder.specs.Pushing.{Shape, shape_fault, open_info, Pushed, unpushed, after_block, due, StandsFor, sound_of, frame_with, SpellsLeastFound}
use Rattle.flac_native.specs.Writing.{blocks_spelling, head_spelling, SpellsFrame}
use Rattle.flac_native.proofs.EachFrame.{same_three, follows_on, sized, full_before}
use Rattle.flac_native.proofs.Onwards.{as_part, after_profile}
use Rattle.flac_encoder.proofs.Pushing.{Shaped, shaped, keeps_open, opened, Accepted, stands_on}
use Rattle.flac_pages.specs.declared.writing.PacketKind.TheVariants as kind_of
use Rattle.flac_pages.specs.Placed.{Placed, IsPlaced, marks_of, sequence_after}
use Rattle.flac_pages.specs.Written.{packet_spelling}
use Rattle.flac_pages.specs.Items.{IsItem}
use Rattle.flac_ogg.specs.Headers.{AreHeaders}
use Rattle.flac_ogg.specs.Listed.{texts_of}
use Rattle.flac_ogg.specs.Mapping.{is_first_block, packet_layout}
use Rattle.flac_ogg.specs.Native.{mapping_spelling, block_spellings, packet_spellings, native_text, AreStream}
use Rattle.flac_ogg.specs.Held.{ArePages}
use Rattle.flac_predict.specs.declared.search.Search.{Search}
use Rattle.flac_encoder.specs.PushingOgg.{PushedOgg, trying_ogg, searching_ogg, StandsForOgg, IsOpen, Opens, IsNextPacket, PushesOgg, BeginsPushOgg}
use Rattle.flac_ogg.specs.Stream.{start, packet_start, closed_packet, AreItems, OggStream}
use Rattle.flac_ogg.specs.Writing.{header_count}
use Rattle.flac_ogg.specs.declared.headers.Headers.{Headers}
use Rattle.flac_ogg.proofs.Headed.{alone}
use Rattle.flac_ogg.proofs.NativeBlocks.{ArePacked, are_items, packed_later, head_packed}
use Rattle.flac_ogg.proofs.NativeItems.{after_mapping}
use Rattle.flac_ogg.proofs.OpenPages.{pages_more}
use Rattle.flac_ogg.proofs.Packing.{mapping_long, count_blocks}
use Rattle.flac_ogg.proofs.Whole.{block_long, count_small, ogg_stream}

abbrev bytes_of : List Placed → List (List ℕ)
bytes_of packets = map (λ q. q.packet) packets

-- what was written and what is held are an Ogg stream of the items
pub stands_for : {S : Type 0} (e : PushedOgg S) (items : List Piece) (q : Placed) (qs : List Placed) (written : List Bool) → ArePages e.serial (q ∷ qs) written (bits_of e.middle) (bits_of e.last) e.sequence
    → StandsFor e.pushed (marked ∷ items) (native_text (bytes_of (q ∷ qs))) → AreStream e.pushed.shape.profile (bytes_of (q ∷ qs)) items → All IsPlaced (q ∷ qs) → e.serial < 2 ^ 32 → length q.packet ≡ 51 → StandsForOgg e items (q ∷ qs) written
stands_for e items q qs written pages plain are good small long = record {
  pages = pages;
  stream = subst (λ t. OggStream e.pushed.shape.profile (beginning Truncated) items t) (sym pages.last_is) (ogg_stream e.pushed.shape.profile e.serial q qs items small long good are);
  plain = plain;
  are = are;
  good = good;
  small = small;
  first = (q, qs, refl, long);
}

-- so they are whatever predictors are tried next
pub stands_trying : {S : Type 0} (e : PushedOgg S) (ps : List LinearPredictor) (items : List Piece) (packets : List Placed) (written : List Bool) → StandsForOgg e items packets written → StandsForOgg (trying_ogg e ps) items packets written
stands_trying e ps items packets written h = record {
  pages = h.pages;
  stream = h.stream;
  plain = record { stream = h.plain.stream; info = h.plain.info; frames = h.plain.frames; samples = h.plain.samples; before = h.plain.before };
  are = h.are;
  good = h.good;
  small = h.small;
  first = h.first;
}

-- and however others are sought
pub stands_searching : {S : Type 0} (e : PushedOgg S) (search : Option Search) (items : List Piece) (packets : List Placed) (written : List Bool) → StandsForOgg e items packets written
    → StandsForOgg (searching_ogg e search) items packets written
stands_searching e search items packets written h = record {
  pages = h.pages;
  stream = h.stream;
  plain = record { stream = h.plain.stream; info = h.plain.info; frames = h.plain.frames; samples = h.plain.samples; before = h.plain.before };
  are = h.are;
  good = h.good;
  small = h.small;
  first = h.first;
}

-- ---- the head

zeros_small : (n : ℕ) → AreBytes (replicate n 0)
zeros_small zero = tt
zeros_small (suc n) = (omega arith, zeros_small n)

pub zero_bytes : IsBytes 16 (replicate 16 0)
zero_bytes = record { many = refl; small = zeros_small 16 }

joined_blocks : (bs : List Block) → joined (block_spellings bs) ≡ blocks_spelling bs
joined_blocks [] = refl
joined_blocks (b ∷ bs) = ap (λ t. block_spelling (is_nil bs) b ++ t) (joined_blocks bs)

module _ (info : Info) (list : List Block) (digest : IsBytes 16 info.digest) where
  abbrev block : List Bool
  block = block_spelling (is_nil list) (block_of.StreamInfo info)

  abbrev mapping : List Bool
  mapping = mapping_spelling (header_count (length list))

  first_long : (packet : List ℕ) → bits_of packet ≡ mapping ++ block → length packet ≡ 51
  first_long packet is =
      omega (arith, length-bits_of packet, ap (λ (k : List Bool). length k) is, length-append mapping block, mapping_long (header_count (length list)), block_long (is_nil list) info digest)

  same_native : (q : Placed) (qs : List Placed) → texts_of (q ∷ qs) ≡ packet_spellings (header_count (length list)) info list [] → native_text (bytes_of (q ∷ qs)) ≡ head_spelling info list
  same_native q qs is =
      let first : bits_of q.packet ≡ mapping ++ block = ap (λ (t : List (List Bool)). get_or t 0 []) is in
      let others : texts_of qs ≡ block_spellings list = ap (λ (t : List (List Bool)). drop 1 t) is ∙ append-nil (block_spellings list) in
      let here : bits_of (drop 13 q.packet) ≡ block = sym (after_mapping q.packet mapping block first (mapping_long (header_count (length list)))) in
      ap (λ t. unsigned 32 0x664C6143 ++ (t ++ joined (texts_of qs))) here ∙ ap (λ t. unsigned 32 0x664C6143 ++ (block ++ t)) (ap joined others ∙ joined_blocks list)

pub opened_head : {S : Type 0} (s : Shape) (list : List Block) (h : Headers) (e : PushedOgg S) → shape_fault s ≡ None → list_fault info_seen list ≡ None → AllAre FitsFields list → e.serial < 2 ^ 32 → h.serial ≡ e.serial
    → AreHeaders (packet_spellings (header_count (length list)) (open_info s) list []) h → e.pushed ≡ unpushed s e.pushed.target → e.sequence ≡ h.held.next → e.middle ≡ h.held.middle.items → e.last ≡ h.held.last.items
    → (packets : List Placed) × IsOpen list e packets (bits_of h.sent.items)
opened_head s list h e shape good fits small serial are pushed sequence middle last = go are.packets are.texts_are are.kinds_are are.good are.pages
  where
    info : Info
    info = open_info s

    count : ℕ
    count = header_count (length list)

    items : List Piece
    items = closing (block_of.StreamInfo info ∷ list)

    go : (packets : List Placed) → texts_of packets ≡ packet_spellings (header_count (length list)) (open_info s) list [] → map (λ q. q.kind) packets ≡ replicate (length (packet_spellings (header_count (length list)) (open_info s) list [])) kind_of.Header
        → All IsPlaced packets → ArePages h.serial packets (bits_of h.sent.items) (bits_of h.held.middle.items) (bits_of h.held.last.items) h.held.next → (packets : List Placed) × IsOpen list e packets (bits_of h.sent.items)
    go [] texts kinds placed pages = absurd (omega (arith, ap (λ (x : List (List Bool)). length x) texts))
    go (q ∷ qs) texts kinds placed pages =
        let is : IsInfo info = record { rules = keeps_open s (shaped s shape); digest = zero_bytes } in
        let plain = opened s e.pushed.target list shape good fits in
        let packed = head_packed s.profile info [] [] (λ seen. tt) count list (count_small (length list)) is good fits in
        let spelled = subst (λ i. ArePacked (start s.profile) (packet_spellings count info list []) i) (append-nil items) packed in
        let are_stream : AreStream s.profile (bytes_of (q ∷ qs)) items = record {
          spelled = are_items (start s.profile) (bytes_of (q ∷ qs)) items (subst (λ t. ArePacked (start s.profile) t items) (sym texts) spelled);
          ends = plain.stream.ends;
          kept = plain.stream.kept;
        } in
        let there : StandsFor e.pushed (marked ∷ items) (native_text (bytes_of (q ∷ qs))) =
        subst (λ t. StandsFor e.pushed (marked ∷ items) t) (sym (same_native info list zero_bytes q qs texts)) (subst (λ p. StandsFor p (marked ∷ items) (head_spelling info list)) (sym pushed) plain) in
        let first : bits_of q.packet ≡ mapping_spelling count ++ block_spelling (is_nil list) (block_of.StreamInfo info) = ap (λ (t : List (List Bool)). get_or t 0 []) texts in
        let held : ArePages e.serial (q ∷ qs) (bits_of h.sent.items) (bits_of e.middle) (bits_of e.last) e.sequence = rw (← serial, sequence, middle, last) pages in
        let many : length (packet_spellings count info list []) ≡ length list + 1 = omega (arith, length-append (block_spellings list) [], count_blocks list) in
        let told : open_info e.pushed.shape ≡ info = ap (λ (p : Pushed _). open_info p.shape) pushed in
        let shaped_as : s.profile ≡ e.pushed.shape.profile = sym (ap (λ (p : Pushed _). p.shape.profile) pushed) in
        let same_stream = subst (λ k. AreStream k (bytes_of (q ∷ qs)) items) shaped_as are_stream in
        let stands = stands_for e items q qs (bits_of h.sent.items) held there same_stream placed small (first_long info list zero_bytes q.packet first) in (
          q ∷ qs,
          record {
            texts = texts ∙ ap (λ i. packet_spellings count i list []) (sym told);
            kinds = kinds ∙ ap (λ n. replicate n kind_of.Header) many;
            stands = subst (λ i. StandsForOgg e (closing (block_of.StreamInfo i ∷ list)) (q ∷ qs) (bits_of h.sent.items)) (sym told) stands;
          },
        )

pub opened_ogg : {S : Type 0} (g : target.Ghosts S) (s : Shape) (list : List Block) (old : S) (h : Headers) (e : PushedOgg S) → shape_fault s ≡ None → list_fault info_seen list ≡ None → AllAre FitsFields list → e.serial < 2 ^ 32
    → h.serial ≡ e.serial → AreHeaders (packet_spellings (header_count (length list)) (open_info s) list []) h → e.pushed ≡ unpushed s e.pushed.target → e.sequence ≡ h.held.next → e.middle ≡ h.held.middle.items
    → e.last ≡ h.held.last.items → (g.known old ≡ true → g.sent e.pushed.target ≡ g.sent old ++ h.sent.items) → Opens g list old e
opened_ogg g s list old h e shape good fits small serial are pushed sequence middle last sent =
    let head = opened_head s list h e shape good fits small serial are pushed sequence middle last in
    record {
      packets = head.0;
      text = bits_of h.sent.items;
      texts = head.1.texts;
      kinds = head.1.kinds;
      stands = head.1.stands;
      sent = λ known. ap bits_of (sent known) ∙ bits_of-append (g.sent old) h.sent.items;
    }

-- ---- one more frame

items_more : (p : Progress) (packets : List (List ℕ)) (items : List Piece) (packet : List ℕ) (x : Piece) → AreItems p packets items
    → IsItem (room_in (state_after grammar p items).stand.phase) (packet_layout (state_after grammar p items).stand) (packet_start None) (closed_packet packet) x → AreItems p (packets ++ packet ∷ []) (items ++ x ∷ [])
items_more p [] [] packet x are is = (is, tt)
items_more p [] (y ∷ ys) packet x are is = absurd are
items_more p (first ∷ packets) [] packet x are is = absurd are
items_more p (first ∷ packets) (y ∷ ys) packet x (here, others) is = (here, items_more (next p y) packets ys packet x others is)

bytes_more : (ps : List Placed) (q : Placed) → bytes_of (ps ++ q ∷ []) ≡ bytes_of ps ++ q.packet ∷ []
bytes_more [] q = refl
bytes_more (p ∷ ps) q = ap (λ l. p.packet ∷ l) (bytes_more ps q)

joined_more : (packets : List (List ℕ)) (packet : List ℕ) → joined (map bits_of (packets ++ packet ∷ [])) ≡ joined (map bits_of packets) ++ bits_of packet
joined_more [] packet = append-nil (bits_of packet)
joined_more (p ∷ ps) packet = ap (λ t. bits_of p ++ t) (joined_more ps packet) ∙ sym (append_assoc (bits_of p) (joined (map bits_of ps)) (bits_of packet))

native_more : (p q : Placed) (ps : List Placed) → native_text (bytes_of (p ∷ (ps ++ q ∷ []))) ≡ native_text (bytes_of (p ∷ ps)) ++ bits_of q.packet
native_more p q ps =
    let marker = unsigned 32 0x664C6143 in
    let first = bits_of (drop 13 p.packet) in
    let rest = joined (map bits_of (bytes_of ps)) in
    ap (λ (l : List (List ℕ)). marker ++ (first ++ joined (map bits_of l))) (bytes_more ps q) ∙ ap (λ t. marker ++ (first ++ t)) (joined_more (bytes_of ps) q.packet)
    ∙ ap (λ t. marker ++ t) (sym (append_assoc first rest (bits_of q.packet))) ∙ sym (append_assoc marker (first ++ rest) (bits_of q.packet))

is_due : (b number : ℕ) (before : Option Before) → before ≡ due b number → (before ≡ None) ⊎ (before ≡ Some (full_before b number))
is_due b zero before e = inl e
is_due b (suc n) before e = let k : nat_eq (suc n) 0 ≡ false = grind (arith, nat_tests) in inr (e ∙ ap (λ c. cond c None (Some (full_before b (suc n)))) k)

-- the bits are the frame where it is due
frame_due : (s : Shape) (q : Shaped s) (number : ℕ) (channels : List (List ℤ)) (before : Option Before) (t : List Bool) → length channels ≡ s.channels → samples_each channels ≤ s.block_size → before ≡ due s.block_size number
    → SpellsFrame (sound_of s channels) (frame_with number channels) t → Spells (frame s.profile (open_info s) before) (packet_start None) t (frame_with number channels)
frame_due s q number channels before t many small left k =
    let info = open_info s in
    let f = frame_with number channels in
    let h = k.form.header in
    let size = samples_each channels in
    let after = is_due s.block_size number before left in
    let r = encodings_are_frames (sound_of s channels) size number channels k.form info refl refl (sym many) k.encoding in
    let in_rate : size ≤ greatest_in s.profile info.rate = omega (arith, small, q.greatest) in
    let at_most : h.size ≤ s.block_size = omega (arith, r.sized, small) in
    let follows : AllKept (header_rules s.profile info before h) = (
      ap not (r.allowed in_rate),
      (
        same_three (rate_in s.profile info h) info.rate (channels_of h.channel_code) info.channels (depth_in s.profile info h) info.depth r.format.rate r.format.channels r.format.depth,
        (follows_on s.block_size number before h r.fixed r.numbered after, (sized info s.block_size number before h refl refl at_most after, tt)),
      ),
    ) in
    let w = r.frame before follows in
    (frames_spelled s.profile info before (packet_start None) t f (keeps_open s q) refl refl refl).1 (record {
      form = k.form;
      valid = w.0;
      spelling = k.spelling;
      frame = rw (r.fixed, r.numbered, r.sized) refl;
      samples = w.1;
    })

frames_now : (phase : Phase) (info : Option Info) → may_end_in phase info ≡ true → phase ≡ Frames
frames_now Opening info e = absurd cc
frames_now Blocks info e = absurd cc
frames_now Frames info e = refl

not_first : (phase : Phase) (index : ℕ) → phase ≡ Frames → is_first_block phase index ≡ false
not_first phase index e = subst (λ z. is_first_block z index ≡ false) (sym e) refl

in_room : (phase : Phase) (t : List Bool) → phase ≡ Frames → length t ≤ 8 * 16777215 → InRoom (room_in phase) (packet_start None) t
in_room phase t e short = subst (λ p. InRoom (room_in p) (packet_start None) t) (sym e) (omega (arith, short))

module _ {S : Type 0} (old new : PushedOgg S) (t : S) (block : List (List ℤ)) (packet : List ℕ) (shape : shape_fault old.pushed.shape ≡ None) (accept : Accepted old.pushed block)
    (text_is : SpellsFrame (sound_of old.pushed.shape block) (frame_with old.pushed.number block) (bits_of packet)) where
  abbrev f : Frame
  f = frame_with old.pushed.number block

  abbrev q : Placed
  q = record { packet = packet; kind = kind_of.Frame (old.pushed.samples + samples_each block) }

  frame_item : (items : List Piece) (plain : List Bool) → StandsFor old.pushed (marked ∷ items) plain
      → IsItem (room_in (state_after grammar (start old.pushed.shape.profile) items).stand.phase) (packet_layout (state_after grammar (start old.pushed.shape.profile) items).stand) (packet_start None) (closed_packet packet) (framed f)
  frame_item items plain h =
      let s = old.pushed.shape in
      let p = state_after grammar (start s.profile) items in
      let phase : p.stand.phase ≡ Frames = frames_now p.stand.phase p.stand.info h.stream.ends in
      let here = frame_due s (shaped s shape) old.pushed.number block p.stand.before (bits_of packet) accept.many accept.most (h.before accept.going) text_is in
      let judged = subst (λ k. Spells (frame k (open_info s) p.stand.before) (packet_start None) (bits_of packet) f) (sym (after_profile (start s.profile) items)) here in
      packed_later p (bits_of packet) (framed f) (not_first p.stand.phase p.stand.index phase) (as_part p.stand (open_info s) (packet_start None) (bits_of packet) f phase h.info judged)
      (in_room p.stand.phase (bits_of packet) phase text_is.short)

  pub stands_next : AreBytes packet → new.pushed ≡ after_block old.pushed (samples_each block) t → new.serial ≡ old.serial → new.sequence ≡ sequence_after old.sequence packet
      → bits_of new.middle ≡ packet_spelling (marks_of old.serial old.sequence false false q) packet → bits_of new.last ≡ packet_spelling (marks_of old.serial old.sequence false true q) packet
      → (items : List Piece) (packets : List Placed) (written : List Bool) → StandsForOgg old items packets written → StandsForOgg new (items ++ framed f ∷ []) (packets ++ q ∷ []) (written ++ bits_of old.middle)
  stands_next small pushed serial sequence middle last items packets written h = subst (λ l. StandsForOgg new (items ++ framed f ∷ []) (l ++ q ∷ []) (written ++ bits_of old.middle)) (sym h.first.2) whole
    where
      p : Placed
      p = h.first.0

      ps : List Placed
      ps = h.first.1

      same : packets ≡ p ∷ ps
      same = h.first.2

      plain : StandsFor old.pushed (marked ∷ items) (native_text (bytes_of (p ∷ ps)))
      plain = subst (λ l. StandsFor old.pushed (marked ∷ items) (native_text (bytes_of l))) same h.plain

      more : StandsFor new.pushed (marked ∷ (items ++ framed f ∷ [])) (native_text (bytes_of (p ∷ (ps ++ q ∷ []))))
      more = subst (λ x. StandsFor new.pushed (marked ∷ (items ++ framed f ∷ [])) x) (sym (native_more p q ps))
          (subst (λ e. StandsFor e (marked ∷ (items ++ framed f ∷ [])) (native_text (bytes_of (p ∷ ps)) ++ bits_of packet)) (sym pushed)
          (stands_on old.pushed t block (bits_of packet) shape accept.many accept.most accept.going text_is (marked ∷ items) (native_text (bytes_of (p ∷ ps))) plain))

      there : AreItems (start old.pushed.shape.profile) (bytes_of packets) items
      there = h.are.spelled

      spelled : AreItems (start old.pushed.shape.profile) (bytes_of (p ∷ (ps ++ q ∷ []))) (items ++ framed f ∷ [])
      spelled = subst (λ l. AreItems (start old.pushed.shape.profile) (p.packet ∷ l) (items ++ framed f ∷ [])) (sym (bytes_more ps q))
          (items_more (start old.pushed.shape.profile) (bytes_of (p ∷ ps)) items packet (framed f) (subst (λ l. AreItems (start old.pushed.shape.profile) (bytes_of l) items) same there) (frame_item items (native_text (bytes_of (p ∷ ps))) plain))

      pages : ArePages new.serial (p ∷ (ps ++ q ∷ [])) (written ++ bits_of old.middle) (bits_of new.middle) (bits_of new.last) new.sequence
      pages = subst (λ s. ArePages s (p ∷ (ps ++ q ∷ [])) (written ++ bits_of old.middle) (bits_of new.middle) (bits_of new.last) new.sequence) (sym serial)
          (pages_more old.serial old.sequence new.sequence p ps q written (bits_of old.middle) (bits_of old.last) (bits_of new.middle) (bits_of new.last)
          (subst (λ l. ArePages old.serial l written (bits_of old.middle) (bits_of old.last) old.sequence) same h.pages) middle last sequence)

      placed : IsPlaced q
      placed = record { bytes = small; position = omega (arith, accept.samples) }

      good : All IsPlaced (p ∷ (ps ++ q ∷ []))
      good = All-append IsPlaced (p ∷ ps) (q ∷ []) (subst (λ l. All IsPlaced l) same h.good) (alone q placed)

      format : new.pushed.shape.profile ≡ old.pushed.shape.profile
      format = ap (λ (e : Pushed S). e.shape.profile) pushed

      spelled_now : AreItems (start new.pushed.shape.profile) (bytes_of (p ∷ (ps ++ q ∷ []))) (items ++ framed f ∷ [])
      spelled_now = subst (λ k. AreItems (start k) (bytes_of (p ∷ (ps ++ q ∷ []))) (items ++ framed f ∷ [])) (sym format) spelled

      whole : StandsForOgg new (items ++ framed f ∷ []) (p ∷ (ps ++ q ∷ [])) (written ++ bits_of old.middle)
      whole = stands_for new (items ++ framed f ∷ []) p (ps ++ q ∷ []) (written ++ bits_of old.middle) pages more (record { spelled = spelled_now; ends = more.stream.ends; kept = more.stream.kept }) good
          (omega (arith, serial, h.small)) h.first.3

  pub next_packet : SpellsLeastFound old.pushed.search old.pushed.predictors (sound_of old.pushed.shape block) f (bits_of packet) → AreBytes packet → new.pushed ≡ after_block old.pushed (samples_each block) t → new.serial ≡ old.serial → new.sequence ≡ sequence_after old.sequence packet
      → bits_of new.middle ≡ packet_spelling (marks_of old.serial old.sequence false false q) packet → bits_of new.last ≡ packet_spelling (marks_of old.serial old.sequence false true q) packet → IsNextPacket old new block q
  next_packet least small pushed serial sequence middle last = record { kind = refl; spells = text_is; least = least; stands = stands_next small pushed serial sequence middle last }

  pub pushes_ogg : (g : target.Ghosts S) → SpellsLeastFound old.pushed.search old.pushed.predictors (sound_of old.pushed.shape block) f (bits_of packet) → AreBytes packet → new.pushed ≡ after_block old.pushed (samples_each block) t → new.serial ≡ old.serial
      → new.sequence ≡ sequence_after old.sequence packet → bits_of new.middle ≡ packet_spelling (marks_of old.serial old.sequence false false q) packet
      → bits_of new.last ≡ packet_spelling (marks_of old.serial old.sequence false true q) packet → g.sent new.pushed.target ≡ g.sent old.pushed.target ++ old.middle → PushesOgg g block old new
  pushes_ogg g least small pushed serial sequence middle last sent = record { packet = q; next = next_packet least small pushed serial sequence middle last; sent = ap bits_of sent ∙ bits_of-append (g.sent old.pushed.target) old.middle }

  pub begins_ogg : (g : target.Ghosts S) (now : PushedOgg S) → SpellsLeastFound old.pushed.search old.pushed.predictors (sound_of old.pushed.shape block) f (bits_of packet) → AreBytes packet → new.pushed ≡ after_block old.pushed (samples_each block) t → new.serial ≡ old.serial
      → new.sequence ≡ sequence_after old.sequence packet → bits_of new.middle ≡ packet_spelling (marks_of old.serial old.sequence false false q) packet
      → bits_of new.last ≡ packet_spelling (marks_of old.serial old.sequence false true q) packet → (front rest : List ℕ) → old.middle ≡ front ++ rest → g.sent now.pushed.target ≡ g.sent old.pushed.target ++ front → BeginsPushOgg g block old now
  begins_ogg g now least small pushed serial sequence middle last front rest cut sent = record {
    packet = q;
    to = new;
    next = next_packet least small pushed serial sequence middle last;
    front = bits_of front;
    rest = bits_of rest;
    held = ap bits_of cut ∙ bits_of-append front rest;
    sent = ap bits_of sent ∙ bits_of-append (g.sent old.pushed.target) front;
  }
