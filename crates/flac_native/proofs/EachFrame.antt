-- The frames of a stream, one at a time.
use Rattle.std.proofs.Common.{◌≡◌, ℕ, ◌+◌, ◌*◌, ◌<◌, ◌≤◌, Bool, true, false, not, ◌&&◌, ◌||◌, nat_eq, nat_lt, List, [], length, take, drop, Option, Some, None, ◌⊎◌, inl, inr, refl, sym, ap, subst, ◌∙◌, arith}
use Rattle.std.proofs.lemmas.Bool.Decides.{nat_tests}
use Rattle.std.proofs.lemmas.List.{append-nil, length-map}
use Rattle.std.proofs.Math.Nat.{mul-suc}
use Rattle.flac_bits.specs.State.{Mark, fresh}
use Rattle.flac_bits.specs.Meaning.{Spells, AllKept}
use Rattle.flac_bits.proofs.ItemSpellings.{fresh_unread, fresh_check8, fresh_check16}
use Rattle.flac_info.specs.Info.{Info, KeepsRules}
use Rattle.flac_meta.specs.declared.block.Seen.{Seen}
use Rattle.flac_header.specs.Header.{Header, channels_of, greatest_in}
use Rattle.flac_frame.specs.Audio.{Sound, samples_each}
use Rattle.flac_frame.specs.Frame.{Frame, frame, header_rules, rate_in, depth_in, left_by, breaks_sequence, breaks_size}
use Rattle.flac_frame.specs.declared.before.Before.{Before}
use Rattle.flac_frame.specs.Spelling.{frame_spelling}
use Rattle.flac_frame.proofs.Encodings.{encodings_are_frames}
use Rattle.flac_frame.proofs.FrameTie.{frames_spelled}
use Rattle.flac_native.specs.Message.{sample_width}
use Rattle.flac_native.specs.Stream.{framed, Progress, layout, frame_after}
use Rattle.flac_native.specs.declared.track.Phase.TheVariants.{Frames}
use Rattle.flac_native.specs.Given.{Cut, size_of, frame_of}
use Rattle.flac_native.specs.Writing.{SpellsFrame}
use Rattle.flac_native.proofs.Planned.{Planned, Fit}

-- ---- the rules of a header

pub same_three : (a b c d e f : ℕ) → a ≡ b → c ≡ d → e ≡ f → not (nat_eq a b && nat_eq c d && nat_eq e f) ≡ false
same_three a b c d e f p q r = grind (arith, nat_tests)

same_number : (a b : ℕ) → a ≡ b → not (nat_eq a b) ≡ false
same_number a b e = grind (arith, nat_tests)

small_first : (b size : ℕ) → size ≤ b → nat_lt b size ≡ false
small_first b size h = grind (arith, nat_tests)

small_later : (v : Bool) (b size : ℕ) → size ≤ b → (nat_lt b size || nat_lt b b || (not v && (not (nat_eq b b) || nat_lt b size))) ≡ false
small_later true b size h = grind (arith, nat_tests)
small_later false b size h = grind (arith, nat_tests)

-- what full blocks leave
abbrev pub full_before : ℕ → ℕ → Before
full_before b number = record { first_size = b; variable = false; next = number; size = b }

pub follows_on : (b number : ℕ) (before : Option Before) (h : Header) → h.variable ≡ false → h.number ≡ number → (before ≡ None) ⊎ (before ≡ Some (full_before b number)) → breaks_sequence before h ≡ false
follows_on b number before h v n (inl e) = rw e refl
follows_on b number before h v n (inr e) = rw (e, v) (same_number h.number number n)

pub sized : (info : Info) (b number : ℕ) (before : Option Before) (h : Header) → info.least_block ≡ b → info.greatest_block ≡ b → h.size ≤ b → (before ≡ None) ⊎ (before ≡ Some (full_before b number)) → breaks_size info before h ≡ false
sized info b number before h l g s (inl e) = rw (e, g) (small_first b h.size s)
sized info b number before h l g s (inr e) = rw (e, g, l) (small_later h.variable b h.size s)

-- ---- frames

-- STREAMINFO of the format that the plan was made for
pub record Suits (p : Cut) (a : Sound) (info : Info) : Type 0 where
  pub least_block : info.least_block ≡ p.block_size
  pub greatest_block : info.greatest_block ≡ p.block_size
  pub rate : info.rate ≡ a.rate
  pub channels : info.channels ≡ length a.channels
  pub depth : info.depth ≡ a.bits
  pub rules : KeepsRules info

module _ (p : Cut) (a : Sound) (info : Info) (q : Planned p) (f : Fit p a) (suits : Suits p a info) where
  abbrev pub b : ℕ
  b = p.block_size

  abbrev pub total : ℕ
  total = samples_each a.channels

  -- what the blocks before one leave
  abbrev pub Left : ℕ → Option Before → Type 0
  Left number before = b * number < total → (before ≡ None) ⊎ (before ≡ Some (full_before b number))

  pub left_on : (number : ℕ) (before : Option Before) → (before ≡ None) ⊎ (before ≡ Some (full_before b number)) → Left (number + 1) (Some (left_by before false number (size_of b total number)))
  left_on number before was more =
      let up : b * (number + 1) ≡ b * number + b = omega (arith, mul-suc b number) in
      let full : size_of b total number ≡ b = omega (arith, up, more) in
      inr (go before was full)
    where
      go : (before : Option Before) → (before ≡ None) ⊎ (before ≡ Some (full_before b number)) → size_of b total number ≡ b → Some (left_by before false number (size_of b total number)) ≡ Some (full_before b (number + 1))
      go None w full = rw full refl
      go (Some k) (inl e) full = absurd cc
      go (Some k) (inr e) full = let is : k ≡ full_before b number = cc in rw (full, is) refl

  pub frame_by_layout : (number : ℕ) (before : Option Before) (m : Mark) (t : List Bool) → m.unread ≡ 0 → (before ≡ None) ⊎ (before ≡ Some (full_before b number)) → SpellsFrame a (frame_of b a number) t
      → Spells (frame a.profile info before) (fresh m) t (frame_of b a number)
  frame_by_layout number before m t z left s =
      let h = s.form.header in
      let size = size_of b total number in
      let x = frame_of b a number in
      let r = encodings_are_frames a size number x.channels s.form info suits.rate suits.depth (suits.channels ∙ sym (length-map a.channels (λ c. take size (drop (b * number) c)))) s.encoding in
      let in_rate : size ≤ greatest_in a.profile info.rate = subst (λ r. size ≤ greatest_in a.profile r) (f.rate ∙ sym suits.rate) (subst (λ x. size ≤ greatest_in x p.rate) f.profile (omega (arith, q.greatest))) in
      let at_most : h.size ≤ b = omega (arith, r.sized) in
      let follows : AllKept (header_rules a.profile info before h) = (
        ap not (r.allowed in_rate),
        (same_three (rate_in a.profile info h) info.rate (channels_of h.channel_code) info.channels (depth_in a.profile info h) info.depth r.format.rate r.format.channels r.format.depth, (follows_on b number before h r.fixed r.numbered left, (sized info b number before h suits.least_block suits.greatest_block at_most left, tt))),
      ) in
      let k = r.frame before follows in
      (frames_spelled a.profile info before (fresh m) t x suits.rules (fresh_unread m z) (fresh_check8 m z) (fresh_check16 m z)).1 (record {
        form = s.form;
        valid = k.0;
        spelling = s.spelling ∙ ap (λ d. frame_spelling d s.form) (sym suits.depth);
        frame = rw (r.fixed, r.numbered, r.sized) refl;
        samples = k.1;
      })

  abbrev pub at_frame : ℕ → Seen → Option Before → ℕ → List ℕ → Progress
  at_frame index seen before samples message = record { stand = record { profile = a.profile; phase = Frames; index = index; seen = seen; info = Some info; before = before }; samples = samples; message = message }

  abbrev pub width : ℕ
  width = sample_width a.bits

  pub as_piece : (index samples : ℕ) (seen : Seen) (before : Option Before) (message : List ℕ) (m : Mark) (t : List Bool) (x : Frame) → Spells (frame a.profile info before) m t x
      → Spells (layout (at_frame index seen before samples message).stand) m t (framed x)
  unfolding layout frame_after
  as_piece index samples seen before message m t x s = (x, t, [], sym (append-nil t), s, (refl, refl))
