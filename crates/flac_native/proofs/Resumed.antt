-- The bytes of a stream from one of its frames on.
use Rattle.std.proofs.Common.{◌≡◌, ℕ, suc, ◌+◌, ◌-◌, ◌*◌, ◌%◌, ◌<◌, ◌≤◌, Bool, true, false, List, [], ◌∷◌, ◌++◌, length, map, drop, Option, Some, None, inl, refl, sym, ap, subst, ◌∙◌, arith}
use Rattle.std.specs.Prelude.{slice_index_or}
use Rattle.std.proofs.lemmas.List.{get_or-drop, length-drop}
use Rattle.flac_bits.specs.State.{Mark, past, fresh}
use Rattle.flac_bits.specs.Forms.{joined}
use Rattle.flac_bits.specs.Meaning.{AllKept}
use Rattle.flac_bits.specs.Items.{Joined, Stream, state_after}
use Rattle.flac_bits.specs.declared.why.Why.TheVariants.{Truncated}
use Rattle.flac_bits.proofs.ItemSpellings.{fresh_unread, after_whole}
use Rattle.flac_meta.specs.Header.{nothing_seen}
use Rattle.flac_info.specs.Info.{Info, without_totals}
use Rattle.flac_meta.specs.declared.block.Seen.{Seen}
use Rattle.flac_frame.specs.Audio.{Sound, samples_each}
use Rattle.flac_frame.specs.Frame.{left_by}
use Rattle.flac_frame.specs.declared.before.Before.{Before}
use Rattle.flac_frame.specs.Encoding.{block_of}
use Rattle.flac_frame.proofs.FrameTie.{frames_bytes}
use Rattle.flac_native.specs.Message.{sample_width, rows_bytes}
use Rattle.flac_native.specs.Decoding.{beginning}
use Rattle.flac_native.specs.Stream.{framed, Progress, grammar, raised, may_end_in, end_rules}
use Rattle.flac_native.specs.declared.track.Phase.TheVariants.{Frames}
use Rattle.flac_native.specs.Given.{Cut, blocks_in, info_of, size_of, frame_of, frames_from}
use Rattle.flac_native.specs.Writing.{SpellsFrame}
use Rattle.flac_native.specs.Resuming.{resumed, EncodedAreResumed}
use Rattle.flac_native.proofs.Planned.{Planned, Fit, planned, fit, keeps_rules}
use Rattle.flac_native.proofs.EachFrame.{Suits, Left, left_on, frame_by_layout, at_frame, as_piece}
use Rattle.flac_native.proofs.Encoded.{least_part}
use Rattle.flac_native.proofs.Streams.{least_small}
use Rattle.flac_native.proofs.Onwards.{without_totals_rules}

-- among the frames of this STREAMINFO
pub record Among (i : Info) (s : Progress) : Type 0 where
  pub phase : s.stand.phase ≡ Frames
  pub info : s.stand.info ≡ Some i

module _ (p : Cut) (a : Sound) (info : Info) (q : Planned p) (f : Fit p a) (suits : Suits p a info) where
  abbrev b : ℕ
  b = p.block_size

  abbrev total : ℕ
  total = samples_each a.channels

  pub frames_on : (texts : List (List Bool)) (number index samples : ℕ) (seen : Seen) (before : Option Before) (message : List ℕ) (m : Mark) → m.unread ≡ 0
      → number + length texts ≤ blocks_in b total → Left p a info q f suits number before
      → ((j : ℕ) → j < length texts → SpellsFrame a (frame_of b a (number + j)) (slice_index_or texts j []))
      → Joined grammar (at_frame p a info q f suits index seen before samples message) m (map framed (frames_from b a (length texts) number)) (joined texts)
      × Among info (state_after grammar (at_frame p a info q f suits index seen before samples message) (map framed (frames_from b a (length texts) number)))
  frames_on [] number index samples seen before message m z many left each = (refl, record { phase = refl; info = refl })
  frames_on (t ∷ ts) number index samples seen before message m z many left each =
      let here : SpellsFrame a (frame_of b a number) t = subst (λ n. SpellsFrame a (frame_of b a n) t) (let e : number + 0 ≡ number = omega arith in e) (each 0 (omega arith)) in
      let was = left (least_part b total number q.least (omega (arith, many))) in
      let size = size_of b total number in
      let whole : length t % 8 ≡ 0 = ap (λ (k : List Bool). length k % 8) here.spelling ∙ frames_bytes a.bits here.form in
      let more = frames_on ts (number + 1) (raised index) (samples + size) seen (Some (left_by before false number size)) (message ++ rows_bytes (sample_width info.depth) (block_of (b * number) size a.channels) size 0) (past t (fresh m))
      (after_whole t (fresh m) (fresh_unread m z) whole) (omega (arith, many)) (left_on p a info q f suits number before was)
      (λ j h. subst (λ n. SpellsFrame a (frame_of b a n) (slice_index_or ts j [])) (let e : number + suc j ≡ number + 1 + j = omega arith in e) (each (suc j) (omega (arith, h)))) in
      ((t, joined ts, refl, as_piece p a info q f suits index samples seen before message (fresh m) t (frame_of b a number) (frame_by_layout p a info q f suits number before m t z was here), omega (arith, fresh_unread m z, here.short), more.0), more.1)

may_end : (i : Info) (s : Progress) → Among i s → may_end_in s.stand.phase s.stand.info ≡ true
may_end i s e = rw (e.phase, e.info) refl

-- neither a number of samples nor a digest is judged
ends_well : (i : Info) (s : Progress) → Among (without_totals i) s → AllKept (end_rules s.stand.info s.samples s.message)
unfolding end_rules
ends_well i s e = rw e.info (refl, (refl, tt))

pub encoded_are_resumed : EncodedAreResumed
encoded_are_resumed p a least greatest frames number planned_is fits f s few =
    let q = planned p planned_is in
    let k = fit p a fits in
    let small = least_small p a frames least greatest f s in
    let i = info_of p a least greatest in
    let b = p.block_size in
    let suits : Suits p a (without_totals i) = record { least_block = refl; greatest_block = refl; rate = refl; channels = refl; depth = refl; rules = without_totals_rules i (keeps_rules p a least greatest q k small.0 small.1) } in
    let texts = drop number frames in
    let long : length texts ≡ length frames - number = length-drop number frames in
    let each : (j : ℕ) → j < length texts → SpellsFrame a (frame_of b a (number + j)) (slice_index_or texts j []) = λ j h.
    subst (λ t. SpellsFrame a (frame_of b a (number + j)) t) (sym (get_or-drop number frames j [])) (f.each (number + j) (omega (arith, h, long))) in
    let r = frames_on p a (without_totals i) q k suits texts number 0 0 nothing_seen None [] (beginning Truncated) refl (omega (arith, long, few, f.many)) (λ more. inl refl) each in
    let joins = subst (λ n. Joined grammar (resumed a.profile i) (beginning Truncated) (map framed (frames_from b a n number)) (joined texts)) long r.0 in
    let among = subst (λ n. Among (without_totals i) (state_after grammar (resumed a.profile i) (map framed (frames_from b a n number)))) long r.1 in
    subst (λ x. Stream grammar (resumed x i) (beginning Truncated) (map framed (frames_from b a (length frames - number) number)) (joined texts)) (sym k.profile)
    (record { spelled = joins; ends = may_end (without_totals i) _ among; kept = ends_well i _ among })
