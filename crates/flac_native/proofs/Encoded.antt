-- What is written is a stream of what was given.
use Rattle.std.proofs.Common.{◌≡◌, ℕ, zero, suc, ◌+◌, ◌-◌, ◌*◌, ◌%◌, ◌^◌, ◌<◌, ◌≤◌, min, ℤ, pos, Bool, false, List, [], ◌∷◌, ◌++◌, length, map, take, drop, Option, Some, refl, sym, ap, subst, ◌∙◌, arith}
use Rattle.std.specs.Prelude.{slice_index_or}
use Rattle.std.proofs.lemmas.List.{get_or-take, get_or-drop}
use Rattle.std.proofs.Math.Nat.{div-add-mod, mul-le-mul_left, mul-suc}
use Rattle.flac_bits.specs.State.{Mark, past, fresh}
use Rattle.flac_bits.specs.Forms.{joined}
use Rattle.flac_bits.specs.Meaning.{Spells}
use Rattle.flac_bits.specs.Fence.{InRoom}
use Rattle.flac_bits.specs.Items.{Joined, state_after}
use Rattle.flac_bits.proofs.ItemSpellings.{fresh_unread, after_whole}
use Rattle.flac_info.specs.Info.{Info}
use Rattle.flac_meta.specs.declared.block.Seen.{Seen}
use Rattle.flac_frame.specs.Audio.{Sound, samples_each}
use Rattle.flac_frame.specs.Frame.{left_by}
use Rattle.flac_frame.specs.declared.before.Before.{Before}
use Rattle.flac_frame.specs.Encoding.{block_of}
use Rattle.flac_frame.proofs.FrameTie.{frames_bytes}
use Rattle.flac_native.specs.Message.{sample_width, sample_bytes, row_bytes, rows_bytes}
use Rattle.flac_native.specs.Stream.{Piece, framed, Progress, grammar, layout, next, raised, room_in}
use Rattle.flac_native.specs.declared.track.Phase.TheVariants.{Frames}
use Rattle.flac_native.specs.Given.{Cut, blocks_in, info_of, sound_message, size_of, frame_of, frames_from}
use Rattle.flac_native.specs.Writing.{SpellsFrame}
use Rattle.flac_native.proofs.Messages.{rows_split}
use Rattle.flac_native.proofs.Planned.{Planned, Fit, keeps_rules}
use Rattle.flac_native.proofs.EachFrame.{Suits, Left, left_on, frame_by_layout, at_frame, as_piece}

-- ---- items one after another, and where they end

-- after all parts
pub record Ended (i : Info) (told : List ℕ) (q : Progress) : Type 0 where
  pub phase : q.stand.phase ≡ Frames
  pub info : q.stand.info ≡ Some i
  pub samples : q.samples ≡ i.total
  pub message : q.message ≡ told

abbrev pub Runs : Info → List ℕ → Progress → Mark → List Piece → List Bool → Type 0
Runs i message s m items text = Joined grammar s m items text × Ended i message (state_after grammar s items)

pub one_more : (i : Info) (message : List ℕ) (s : Progress) (m : Mark) (x : Piece) (xs : List Piece) (front rest : List Bool) → Spells (layout s.stand) (fresh m) front x
    → InRoom (room_in s.stand.phase) (fresh m) front → Runs i message (next s x) (past front (fresh m)) xs rest → Runs i message s m (x ∷ xs) (front ++ rest)
one_more i message s m x xs front rest spelled room more = ((front, rest, refl, spelled, room, more.0), more.1)

-- ---- the samples of a frame

part_at : (start size k : ℕ) (c : List ℤ) → k < size → slice_index_or (take size (drop start c)) k (pos 0) ≡ slice_index_or c (start + k) (pos 0)
part_at start size k c h = get_or-take size (drop start c) k (pos 0) h ∙ get_or-drop start c k (pos 0)

part_row : (width start size k : ℕ) (channels : List (List ℤ)) → k < size → row_bytes width (block_of start size channels) k ≡ row_bytes width channels (start + k)
unfolding row_bytes
part_row width start size k [] h = refl
part_row width start size k (c ∷ cs) h =
    ap (λ z. sample_bytes width z ++ row_bytes width (block_of start size cs) k) (part_at start size k c h) ∙ ap (λ r. sample_bytes width (slice_index_or c (start + k) (pos 0)) ++ r) (part_row width start size k cs h)

pub part_rows : (width start size n k : ℕ) (channels : List (List ℤ)) → k + n ≤ size → rows_bytes width (block_of start size channels) n k ≡ rows_bytes width channels n (start + k)
unfolding rows_bytes
part_rows width start size zero k channels h = refl
part_rows width start size (suc n) k channels h =
    let here = part_row width start size k channels (omega (arith, h)) in
    let more = part_rows width start size n (k + 1) channels (omega (arith, h)) in
    let e : start + (k + 1) ≡ start + k + 1 = omega arith in
    ap (λ r. r ++ rows_bytes width (block_of start size channels) n (k + 1)) here ∙ ap (λ r. row_bytes width channels (start + k) ++ r) (more ∙ ap (λ j. rows_bytes width channels n j) e)

-- ---- blocks that hold all samples

before_last : (b total rest number blocks : ℕ) → 16 ≤ b → b * blocks + rest ≡ total + (b - 1) → number < blocks → b * number < total
before_last b total rest number blocks some e h =
    let up : b * suc number ≤ b * blocks = mul-le-mul_left b h in
    omega (arith, some, e, up, mul-suc b number)

pub least_part : (b total number : ℕ) → 16 ≤ b → number < blocks_in b total → b * number < total
least_part b total number some h = before_last b total _ number (blocks_in b total) some (div-add-mod (total + (b - 1)) b) h

covered : (b total rest blocks : ℕ) → 16 ≤ b → b * blocks + rest ≡ total + (b - 1) → rest < b → total ≤ b * blocks
covered b total rest blocks some e small = omega (arith, some, e, small)

pub all_parts : (b total : ℕ) → 16 ≤ b → total ≤ b * blocks_in b total
all_parts b total some =
    let small : (total + (b - 1)) % b < b = omega (arith, some) in
    covered b total _ (blocks_in b total) some (div-add-mod (total + (b - 1)) b) small

-- ---- frames

module _ (p : Cut) (a : Sound) (least greatest : ℕ) (q : Planned p) (f : Fit p a) (small : least < 2 ^ 24) (few : greatest < 2 ^ 24) where
  abbrev pub info : Info
  info = info_of p a least greatest

  abbrev pub b : ℕ
  b = p.block_size

  abbrev pub total : ℕ
  total = samples_each a.channels

  pub suits : Suits p a info
  suits = record { least_block = refl; greatest_block = refl; rate = refl; channels = refl; depth = refl; rules = keeps_rules p a least greatest q f small few }

  abbrev pub width : ℕ
  width = sample_width a.bits

  pub frames_run : (texts : List (List Bool)) (number index samples : ℕ) (seen : Seen) (before : Option Before) (message : List ℕ) (m : Mark) → m.unread ≡ 0
      → number + length texts ≡ blocks_in b total → Left p a info q f suits number before → samples ≡ min total (b * number) → message ≡ rows_bytes width a.channels (min total (b * number)) 0
      → ((j : ℕ) → j < length texts → SpellsFrame a (frame_of b a (number + j)) (slice_index_or texts j []))
      → Runs info (sound_message a) (at_frame p a info q f suits index seen before samples message) m (map framed (frames_from b a (length texts) number)) (joined texts)
  unfolding sound_message
  frames_run [] number index samples seen before message m z many left counted told each =
      let over : b * number ≡ b * blocks_in b total = ap (λ n. b * n) (omega (arith, many)) in
      let all : min total (b * number) ≡ total = omega (arith, over, all_parts b total q.least) in
      (refl, record { phase = refl; info = refl; samples = counted ∙ all; message = told ∙ ap (λ n. rows_bytes width a.channels n 0) all })
  frames_run (t ∷ ts) number index samples seen before message m z many left counted told each =
      let more : b * number < total = least_part b total number q.least (omega (arith, many)) in
      let here : SpellsFrame a (frame_of b a number) t = subst (λ n. SpellsFrame a (frame_of b a n) t) (let e : number + 0 ≡ number = omega arith in e) (each 0 (omega arith)) in
      let was = left more in
      let size = size_of b total number in
      let whole : length t % 8 ≡ 0 = ap (λ (k : List Bool). length k % 8) here.spelling ∙ frames_bytes a.bits here.form in
      let up : b * (number + 1) ≡ b * number + b = omega (arith, mul-suc b number) in
      let so_far : min total (b * number) ≡ b * number = omega (arith, more) in
      let then_far : min total (b * (number + 1)) ≡ b * number + size = omega (arith, more, up) in
      let here_rows : rows_bytes width (block_of (b * number) size a.channels) size 0 ≡ rows_bytes width a.channels size (b * number) =
      part_rows width (b * number) size size 0 a.channels (omega arith) ∙ ap (λ n. rows_bytes width a.channels size n) (let e : b * number + 0 ≡ b * number = omega arith in e) in
      let split : rows_bytes width a.channels (b * number + size) 0 ≡ rows_bytes width a.channels (b * number) 0 ++ rows_bytes width a.channels size (b * number) =
      rows_split width a.channels (b * number) size 0 ∙ ap (λ n. rows_bytes width a.channels (b * number) 0 ++ rows_bytes width a.channels size n) (let e : 0 + b * number ≡ b * number = omega arith in e) in
      let told_then : message ++ rows_bytes width (block_of (b * number) size a.channels) size 0 ≡ rows_bytes width a.channels (min total (b * (number + 1))) 0 =
      ap (λ k. k ++ rows_bytes width (block_of (b * number) size a.channels) size 0) (told ∙ ap (λ n. rows_bytes width a.channels n 0) so_far)
      ∙ ap (λ r. rows_bytes width a.channels (b * number) 0 ++ r) here_rows ∙ sym split ∙ ap (λ n. rows_bytes width a.channels n 0) (sym then_far) in
      one_more info (sound_message a) (at_frame p a info q f suits index seen before samples message) m (framed (frame_of b a number)) (map framed (frames_from b a (length ts) (number + 1))) t (joined ts)
      (as_piece p a info q f suits index samples seen before message (fresh m) t (frame_of b a number) (frame_by_layout p a info q f suits number before m t z was here))
      (omega (arith, fresh_unread m z, here.short))
      (frames_run ts (number + 1) (raised index) (samples + size) seen (Some (left_by before false number size)) (message ++ rows_bytes width (block_of (b * number) size a.channels) size 0) (past t (fresh m))
      (after_whole t (fresh m) (fresh_unread m z) whole) (omega (arith, many)) (left_on p a info q f suits number before was) (omega (arith, counted, so_far, then_far)) told_then
      (λ j h. subst (λ n. SpellsFrame a (frame_of b a n) (slice_index_or ts j [])) (let e : number + suc j ≡ number + 1 + j = omega arith in e) (each (suc j) (omega (arith, h)))))
