-- Frames, each in a packet of its own, are items; and so what is encoded is the items of an Ogg stream.
use Rattle.std.proofs.Common.{◌≡◌, ℕ, suc, ◌+◌, ◌*◌, ◌%◌, ◌^◌, ◌<◌, ◌≤◌, min, Bool, true, false, not, ◌&&◌, nat_eq, List, [], ◌∷◌, ◌++◌, length, map, take, drop, Option, Some, None, inl, refl, sym, ap, subst, ◌∙◌, arith}
use Rattle.std.specs.Prelude.{slice_index_or}
use Rattle.std.proofs.lemmas.Bool.Decides.{nat_tests}
use Rattle.std.proofs.lemmas.List.{append-nil, length-map}
use Rattle.flac_bits.specs.State.{Mark, past, fresh}
use Rattle.flac_bits.specs.Forms.{joined}
use Rattle.flac_bits.specs.Fence.{InRoom}
use Rattle.flac_bits.specs.Meaning.{Spells, AllKept}
use Rattle.flac_bits.specs.Items.{Joined}
use Rattle.flac_bits.specs.declared.why.Why.TheVariants.{Truncated}
use Rattle.flac_bits.proofs.ItemSpellings.{after_whole}
use Rattle.flac_info.specs.Info.{Info, KeepsRules}
use Rattle.flac_meta.specs.Valid.{IsInfo}
use Rattle.flac_meta.specs.declared.block.Seen.{Seen}
use Rattle.flac_header.specs.Header.{Header, channels_of, greatest_in}
use Rattle.flac_meta.specs.declared.block.Block.TheVariants as blocks
use Rattle.flac_frame.specs.Audio.{Sound, samples_each}
use Rattle.flac_frame.specs.Frame.{Frame, frame, header_rules, rate_in, depth_in, breaks_sequence, breaks_size}
use Rattle.flac_frame.specs.declared.before.Before.{Before}
use Rattle.flac_frame.proofs.Encodings.{encodings_are_frames}
use Rattle.flac_frame.proofs.FrameTie.{frames_spelled, frames_bytes}
use Rattle.flac_native.specs.Decoding.{beginning}
use Rattle.flac_native.specs.Message.{rows_bytes, sample_width}
use Rattle.flac_native.specs.Stream.{framed, Stand, Progress, grammar, layout, layout_in, frame_after, next, room_in}
use Rattle.flac_native.specs.declared.track.Phase.{Phase}
use Rattle.flac_native.specs.declared.track.Phase.TheVariants.{Frames}
use Rattle.flac_native.specs.Given.{Cut, info_of, sound_message, size_of, frame_of, frames_from, frames_of, closing}
use Rattle.flac_native.specs.Writing.{SpellsFrame, AreFrames, AreSizes}
use Rattle.flac_native.proofs.Digests.{digest_is_bytes}
use Rattle.flac_native.proofs.Encoded.{frames_run}
use Rattle.flac_native.proofs.Planned.{Planned, Fit, planned, fit, keeps_rules}
use Rattle.flac_native.proofs.Streams.{encoded_are_streams}
use Rattle.flac_ogg.specs.Mapping.{is_first_block}
use Rattle.flac_ogg.specs.Stream.{start, packet_start, AreItems}
use Rattle.flac_ogg.specs.Native.{packet_spellings, EncodedAreOggItems}
use Rattle.flac_ogg.proofs.NativeItems.{AtByte, at_fresh}
use Rattle.flac_ogg.proofs.NativeBlocks.{ArePacked, are_items, packed_later, after, head_packed}

-- ---- one frame

-- where a frame comes
frame_in : (s : Stand) (m : Mark) (text : List Bool) (x : Frame) → Spells (layout_in Frames s) m text (framed x) → Spells (frame_after s.profile s.info s.before) m text x
frame_in s m text x (y, front, rest, split, spelled, (none, same)) =
    let whole : front ≡ text = sym (split ∙ ap (λ k. front ++ k) none ∙ append-nil front) in
    let is : y ≡ x = cc in
    subst (λ k. Spells (frame_after s.profile s.info s.before) m k x) whole (subst (λ z. Spells (frame_after s.profile s.info s.before) m front z) is spelled)

from_part : (s : Stand) (info : Info) (m : Mark) (text : List Bool) (x : Frame) → s.phase ≡ Frames → s.info ≡ Some info → Spells (layout s) m text (framed x) → Spells (frame s.profile info s.before) m text x
unfolding layout frame_after
from_part s info m text x phase told h =
    let there = frame_in s m text x (subst (λ (k : Phase). Spells (layout_in k s) m text (framed x)) phase h) in
    subst (λ (o : Option Info). Spells (frame_after s.profile o s.before) m text x) told there

as_part : (s : Stand) (info : Info) (m : Mark) (text : List Bool) (x : Frame) → s.phase ≡ Frames → s.info ≡ Some info → Spells (frame s.profile info s.before) m text x → Spells (layout s) m text (framed x)
unfolding layout frame_after
as_part s info m text x phase told h =
    let there : Spells (frame_after s.profile s.info s.before) m text x = subst (λ (o : Option Info). Spells (frame_after s.profile o s.before) m text x) (sym told) h in
    subst (λ (k : Phase). Spells (layout_in k s) m text (framed x)) (sym phase) (x, text, [], sym (append-nil text), there, (refl, refl))

-- the rules of sequence and size see only the number, the size and the strategy
same_sequence : (before : Option Before) (h k : Header) → h.variable ≡ k.variable → h.number ≡ k.number → breaks_sequence before h ≡ breaks_sequence before k
same_sequence None h k v n = refl
same_sequence (Some b) h k v n = rw (v, n) refl

same_size : (info : Info) (before : Option Before) (h k : Header) → h.variable ≡ k.variable → h.size ≡ k.size → breaks_size info before h ≡ breaks_size info before k
same_size info None h k v s = rw s refl
same_size info (Some b) h k v s = rw (v, s) refl

same_three : (a b c d e f : ℕ) → a ≡ b → c ≡ d → e ≡ f → not (nat_eq a b && nat_eq c d && nat_eq e f) ≡ false
same_three a b c d e f p q r = grind (arith, nat_tests)

-- ---- frames

module _ (p : Cut) (a : Sound) (least greatest : ℕ) (q : Planned p) (f : Fit p a) (small : least < 2 ^ 24) (few : greatest < 2 ^ 24) where
  abbrev info : Info
  info = info_of p a least greatest

  rules : KeepsRules info
  rules = keeps_rules p a least greatest q f small few

  abbrev at_ : ℕ → Frame
  at_ number = frame_of p.block_size a number

  -- where some bits spell the frame, those of each encoding do
  encoding_here : (number : ℕ) (before : Option Before) (m : Mark) (front text : List Bool) → AtByte m → Spells (frame a.profile info before) m front (at_ number) → SpellsFrame a (at_ number) text
      → Spells (frame a.profile info before) (packet_start None) text (at_ number)
  encoding_here number before m front text at spelled s =
      let x = at_ number in
      let size = size_of p.block_size (samples_each a.channels) number in
      let other = (frames_spelled a.profile info before m front x rules at.unread at.check8 at.check16).0 spelled in
      let h = s.form.header in
      let k = other.form.header in
      let r = encodings_are_frames a size number x.channels s.form info refl refl (sym (length-map a.channels (λ c. take size (drop (p.block_size * number) c)))) s.encoding in
      let in_rate : size ≤ greatest_in a.profile a.rate = subst (λ k. size ≤ greatest_in k a.rate) f.profile (subst (λ r. size ≤ greatest_in p.profile r) f.rate (omega (arith, q.greatest))) in
      let fixed : h.variable ≡ k.variable = r.fixed ∙ ap (λ (z : Frame). z.variable) other.frame in
      let numbered : h.number ≡ k.number = r.numbered ∙ ap (λ (z : Frame). z.number) other.frame in
      let sized : h.size ≡ k.size = r.sized ∙ ap (λ (z : Frame). z.size) other.frame in
      let kept = other.valid.follows in
      let follows : AllKept (header_rules a.profile info before h) = (
        ap not (r.allowed in_rate),
        (
          same_three (rate_in a.profile info h) a.rate (channels_of h.channel_code) (length a.channels) (depth_in a.profile info h) a.bits r.format.rate r.format.channels r.format.depth,
          (same_sequence before h k fixed numbered ∙ kept.1.1.0, (same_size info before h k fixed sized ∙ kept.1.1.1.0, tt)),
        ),
      ) in
      let valid = r.frame before follows in
      (frames_spelled a.profile info before (packet_start None) text x rules refl refl refl).1 (record {
        form = s.form;
        valid = valid.0;
        spelling = s.spelling;
        frame = rw (r.fixed, r.numbered, r.sized) refl;
        samples = valid.1;
      })

  front_whole : (before : Option Before) (m : Mark) (front : List Bool) (x : Frame) → AtByte m → Spells (frame a.profile info before) m front x → length front % 8 ≡ 0
  front_whole before m front x at spelled =
      let other = (frames_spelled a.profile info before m front x rules at.unread at.check8 at.check16).0 spelled in
      ap (λ (k : List Bool). length k % 8) other.spelling ∙ frames_bytes info.depth other.form

  not_first : (s : Stand) → s.phase ≡ Frames → is_first_block s.phase s.index ≡ false
  not_first s e = subst (λ z. is_first_block z s.index ≡ false) (sym e) refl

  frame_fits : (s : Stand) (text : List Bool) → s.phase ≡ Frames → length text ≤ 8 * 16777215 → InRoom (room_in s.phase) (packet_start None) text
  frame_fits s text e short = subst (λ z. InRoom (room_in z) (packet_start None) text) (sym e) (omega (arith, short))

  frames_packed : (texts : List (List Bool)) (number : ℕ) (s : Progress) (m : Mark) (text : List Bool) → s.stand.profile ≡ a.profile → s.stand.phase ≡ Frames → s.stand.info ≡ Some info → m.unread ≡ 0
      → Joined grammar s m (map framed (frames_from p.block_size a (length texts) number)) text → ((j : ℕ) → j < length texts → SpellsFrame a (at_ (number + j)) (slice_index_or texts j []))
      → ArePacked s texts (map framed (frames_from p.block_size a (length texts) number))
  frames_packed [] number s m text judged phase told z j each = tt
  frames_packed (t ∷ ts) number s m text judged phase told z (front, rest, split, spelled, fits, others) each =
      let x = at_ number in
      let here : SpellsFrame a x t = subst (λ n. SpellsFrame a (at_ n) t) (let e : number + 0 ≡ number = omega arith in e) (each 0 (omega arith)) in
      let at = at_fresh m z in
      let first = subst (λ k. Spells (frame k info s.stand.before) (fresh m) front x) judged (from_part s.stand info (fresh m) front x phase told spelled) in
      let there = subst (λ k. Spells (frame k info s.stand.before) (packet_start None) t x) (sym judged) (encoding_here number s.stand.before (fresh m) front t at first here) in (
        packed_later s t (framed x) (not_first s.stand phase) (as_part s.stand info (packet_start None) t x phase told there) (frame_fits s.stand t phase here.short),
        frames_packed ts (number + 1) (next s (framed x)) (past front (fresh m)) rest judged phase told (after_whole front (fresh m) at.unread (front_whole s.stand.before (fresh m) front x at first)) others
            (λ j h. subst (λ n. SpellsFrame a (at_ n) (slice_index_or ts j [])) (let e : number + suc j ≡ number + 1 + j = omega arith in e) (each (suc j) (omega (arith, h)))),
      )

-- ---- the whole

no_samples : (b total : ℕ) → min total (b * 0) ≡ 0
no_samples b total = omega arith

least_small : (p : Cut) (a : Sound) (frames : List (List Bool)) (least greatest : ℕ) → AreFrames p a frames → AreSizes frames least greatest → (least < 2 ^ 24) × (greatest < 2 ^ 24)
least_small p a [] least greatest f s = (omega (arith, (s.none refl).0), omega (arith, (s.none refl).1))
least_small p a (t ∷ ts) least greatest f s =
    let l = s.least_is (omega arith) in
    let g = s.greatest_is (omega arith) in
    (omega (arith, l.2, (f.each l.0 l.1).short), omega (arith, g.2, (f.each g.0 g.1).short))

pub encoded_are_ogg_items : EncodedAreOggItems
unfolding rows_bytes
encoded_are_ogg_items p list a least greatest count frames packets planned_is fits listed_is fields f s few are =
    let q = planned p planned_is in
    let k = fit p a fits in
    let small = least_small p a frames least greatest f s in
    let i = info_of p a least greatest in
    let b = p.block_size in
    let width = sample_width a.bits in
    let is : IsInfo i = record { rules = keeps_rules p a least greatest q k small.0 small.1; digest = digest_is_bytes (sound_message a) } in
    let items = map framed (frames_from b a (length frames) 0) in
    let m = beginning Truncated in
    let each : (j : ℕ) → j < length frames → SpellsFrame a (frame_of b a (0 + j)) (slice_index_or frames j []) = λ j h. subst (λ n. SpellsFrame a (frame_of b a n) (slice_index_or frames j [])) (let e : j ≡ 0 + j = omega arith in e) (f.each j h) in
    let there : (seen : Seen) → ArePacked (after a.profile i true 0 seen) frames items = λ seen.
    let run = frames_run p a least greatest q k small.0 small.1 frames 0 0 0 seen None [] m refl (omega (arith, f.many)) (λ more. inl refl) (sym (no_samples b (samples_each a.channels))) (sym (ap (λ n. rows_bytes width a.channels n 0) (no_samples b (samples_each a.channels)))) each in
    frames_packed p a least greatest q k small.0 small.1 frames 0 (after a.profile i true 0 seen) m (joined frames) refl refl refl refl run.0 each in
    let all = head_packed a.profile i items frames there count list few is listed_is fields in
    let stream = encoded_are_streams p list a least greatest frames planned_is fits listed_is fields f s in
    let packed = subst (λ n. ArePacked (start a.profile) (packet_spellings count i list frames) (closing (blocks.StreamInfo i ∷ list) ++ map framed (frames_from b a n 0))) f.many all in
    let pieces = closing (blocks.StreamInfo i ∷ list) ++ map framed (frames_of b a) in
    let spelled = are_items (start a.profile) packets pieces (subst (λ t. ArePacked (start a.profile) t pieces) (sym are) packed) in
    record { spelled = subst (λ r. AreItems (start r) packets pieces) (sym k.profile) spelled; ends = stream.ends; kept = stream.kept }
