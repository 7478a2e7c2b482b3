-- What an encoder that is pushed to has written is a stream.
use Rattle.std.proofs.Common.{◌≡◌, ℕ, suc, zero, ◌+◌, ◌*◌, ◌^◌, ◌<◌, ◌≤◌, ℤ, Bool, true, false, not, cond, ◌||◌, nat_eq, nat_lt, nat_le, List, [], ◌∷◌, ◌++◌, length, map, All, Option, Some, None, is_none, ◌⊎◌, inl, inr, refl, sym, ap, subst, ◌∙◌, arith}
use Rattle.std.proofs.Common.{Vec, Global, Result, Ok, Err, IfOk}
use Rattle.std.specs.Prelude.{option_map, replicate}
use Rattle.std.specs.Option.{option_or}
use Rattle.std.proofs.lemmas.Bool.Decides.{nat_tests}
use Rattle.std.proofs.lemmas.List.{append-nil, take_all, length-map}
use Rattle.std.proofs.lemmas.List.Elements.{All-head, All-tail}
use Rattle.flac_bits.specs.Bits.{unsigned, bits_of}
use Rattle.flac_bits.specs.State.{Mark, past, fresh}
use Rattle.flac_bits.specs.Forms.{IsBytes, AreBytes}
use Rattle.flac_bits.specs.Meaning.{Spells, AllKept}
use Rattle.flac_bits.specs.Fence.{InRoom}
use Rattle.flac_bits.specs.Items.{Joined, state_after, mark_after}
use Rattle.flac_bits.specs.declared.why.Why.TheVariants.{Truncated}
use Rattle.flac_bits.proofs.Handing.{state_after-append, Joined-append}
use Rattle.flac_bits.proofs.ItemSpellings.{fresh_unread, fresh_check8, fresh_check16, after_whole}
use Rattle.flac_info.specs.Info.{Info, KeepsRules}
use Rattle.flac_meta.specs.Listed.{list_fault, info_seen}
use Rattle.flac_meta.specs.Valid.{AllAre, FitsFields, IsInfo}
use Rattle.flac_meta.specs.declared.block.Seen.{Seen}
use Rattle.flac_meta.specs.declared.block.Block.{Block}
use Rattle.flac_meta.specs.declared.block.Block.TheVariants as block_of
use Rattle.flac_header.specs.Choice.{rate_choice_in, depth_choice_in}
use Rattle.flac_header.specs.Header.{channels_of, greatest_in}
use Rattle.flac_bits.specs.declared.why.Why.{Why}
use Rattle.flac_bits.specs.declared.target.Target as target
use Rattle.flac_bits.proofs.Holding.{bits_of-append}
use Rattle.flac_frame.specs.Audio.{Sound, IsSound, samples_each, as_long, each_small, samples_fault, channels_fault, audio_fault}
use Rattle.flac_frame.specs.Setup.{format_fault}
use Rattle.flac_frame.specs.declared.setup.SetupFault.{SetupFault}
use Rattle.flac_frame.specs.declared.setup.SetupFault.TheVariants.{BadChannels, TooLong, BadBlockSize}
use Rattle.flac_frame.specs.Encoding.{IsEncoding, IsLeastByPlane, IsShort, block_of as part_of}
use Rattle.flac_frame.specs.Frame.{Frame, frame, header_rules, rate_in, depth_in, left_by}
use Rattle.flac_frame.specs.PlaneLists.{Lists}
use Rattle.flac_frame.specs.Spelling.{FrameForm, frame_spelling}
use Rattle.flac_frame.specs.declared.before.Before.{Before}
use Rattle.flac_frame.proofs.Encodings.{encodings_are_frames}
use Rattle.flac_frame.proofs.FrameTie.{frames_spelled}
use Rattle.flac_native.specs.Decoding.{beginning}
use Rattle.flac_native.specs.Stream.{Piece, marked, framed, Progress, opening, grammar, next, layout, room_in, may_end_in, end_rules}
use Rattle.flac_native.specs.Stream as stream
use Rattle.flac_native.specs.declared.track.Phase.{Phase}
use Rattle.flac_native.specs.declared.track.Phase.TheVariants.{Opening, Blocks, Frames}
use Rattle.flac_native.specs.Given.{closing}
use Rattle.flac_native.specs.Whole.{head_parts}
use Rattle.flac_native.specs.Writing.{blocks_spelling, head_spelling, SpellsFrame, SpellsLeastByPlane}
use Rattle.flac_encoder.specs.Pushing.{Shape, shape_fault, open_info, Pushed, unpushed, after_block, with_target, frames_in, due, StandsFor, sound_of, frame_with, block_fault, size_fault, push_fault, SpellsLeastFound, IsNext, Pushes, BeginsPush}
use Rattle.flac_native.specs.declared.fault.EncodeFault.{EncodeFault}
use Rattle.flac_native.specs.declared.fault.EncodeFault.TheVariants.{BlockSize, Spent, Write, Setup}
use Rattle.flac_native.proofs.EachFrame.{same_three, follows_on, sized, full_before}
use Rattle.flac_native.proofs.Encoded.{Runs, one_more}
use Rattle.flac_native.proofs.NewHead.{valid_after}
use Rattle.flac_native.proofs.Onwards.{as_part, nothing_told, after_profile}
use Rattle.flac_native.proofs.Ordered.{ends_whole}
use Rattle.flac_native.proofs.Planned.{first_none, both_none, either_false, not_zero, not_less, allowed_sizes, rate_range, depth_range, greatest_small}
use Rattle.flac_native.proofs.Streams.{after, info_run, marker_here}
use Rattle.flac_native.proofs.Whole.{head_leaves}

-- ---- a format

pub record Shaped (s : Shape) : Type 0 where
  pub some : 1 ≤ s.channels
  pub few : s.channels ≤ 8
  pub least : 16 ≤ s.block_size
  pub greatest : s.block_size ≤ greatest_in s.profile s.rate
  pub small : s.block_size ≤ 65535
  pub least_rate : 1 ≤ s.rate
  pub rate : s.rate < 2 ^ 20
  pub least_bits : 4 ≤ s.bits
  pub bits : s.bits ≤ 32
  pub has_rate : is_none (rate_choice_in s.profile s.rate) ≡ false
  pub has_bits : is_none (depth_choice_in s.profile s.bits) ≡ false

pub shaped : (s : Shape) → shape_fault s ≡ None → Shaped s
unfolding shape_fault format_fault
shaped s e =
    let both = both_none (format_fault s.profile s.rate s.bits s.channels) _ e in
    let a = first_none _ _ _ both.0 in
    let b = first_none _ _ _ a.1 in
    let c = first_none _ _ _ b.1 in
    let d = first_none _ _ _ both.1 in
    let channels = either_false _ _ c.0 in
    let sizes = allowed_sizes s.profile s.block_size s.rate d.0 in
    let rate = rate_range s.profile s.rate a.0 in
    let bits = depth_range s.profile s.bits b.0 in
    record {
      some = not_zero s.channels channels.0;
      few = not_less 8 s.channels channels.1;
      least = sizes.0;
      greatest = sizes.1;
      small = omega (arith, sizes.1, greatest_small s.profile s.rate);
      least_rate = rate.0;
      rate = rate.1;
      least_bits = bits.0;
      bits = bits.1;
      has_rate = a.0;
      has_bits = b.0;
    }

pub keeps_open : (s : Shape) → Shaped s → KeepsRules (open_info s)
keeps_open s q = record {
  least_block = q.least;
  blocks = omega arith;
  greatest_block = omega (arith, q.small);
  least_frame = omega arith;
  greatest_frame = omega arith;
  least_rate = q.least_rate;
  rate = q.rate;
  least_channels = q.some;
  channels = q.few;
  least_depth = omega (arith, q.least_bits);
  depth = q.bits;
  total = omega arith;
}

zeros_small : (n : ℕ) → AreBytes (replicate n 0)
zeros_small zero = tt
zeros_small (suc n) = (omega arith, zeros_small n)

zero_bytes : IsBytes 16 (replicate 16 0)
zero_bytes = record { many = refl; small = zeros_small 16 }

-- what is unknown is not judged
kept_open : (s : Shape) (samples : ℕ) (message : List ℕ) → AllKept (end_rules (Some (open_info s)) samples message)
unfolding end_rules
kept_open s samples message = (refl, (refl, tt))

-- ---- the head

no_frames : (bs : List Block) → frames_in (closing bs) ≡ 0
no_frames [] = refl
no_frames (b ∷ bs) = no_frames bs

frame_more : (xs : List Piece) (f : Frame) → frames_in (xs ++ framed f ∷ []) ≡ frames_in xs + 1
frame_more [] f = refl
frame_more (marked ∷ xs) f = frame_more xs f
frame_more (stream.block last b ∷ xs) f = frame_more xs f
frame_more (framed g ∷ xs) f = let h = frame_more xs f in omega (arith, h)

may_end : (q : Progress) (i : Info) → q.stand.phase ≡ Frames → q.stand.info ≡ Some i → may_end_in q.stand.phase q.stand.info ≡ true
may_end q i phase told = rw (phase, told) refl

kept_at : (q : Progress) (s : Shape) → q.stand.info ≡ Some (open_info s) → AllKept (end_rules q.stand.info q.samples q.message)
kept_at q s told = rw told (kept_open s q.samples q.message)

head_run : (s : Shape) (list : List Block) → Shaped s → list_fault info_seen list ≡ None → AllAre FitsFields list → Joined grammar (opening s.profile) (beginning Truncated) (head_parts (open_info s) list) (head_spelling (open_info s) list)
head_run s list q good fits =
    let i = open_info s in
    let is : IsInfo i = record { rules = keeps_open s q; digest = zero_bytes } in
    let there : (seen : Seen) (m : Mark) → m.unread ≡ 0 → Runs i [] (after s.profile i true 0 seen) m [] [] = λ seen m z. (refl, record { phase = refl; info = refl; samples = refl; message = refl }) in
    let start = beginning Truncated in
    let marker = unsigned 32 0x664C6143 in
    let m = past marker (fresh start) in
    let z : m.unread ≡ 0 = after_whole marker (fresh start) refl refl in
    let blocks = blocks_spelling (block_of.StreamInfo i ∷ list) in
    let parts = closing (block_of.StreamInfo i ∷ list) in
    let r = one_more i [] (opening s.profile) start marked (parts ++ []) marker (blocks ++ []) (marker_here s.profile (fresh start)) tt (info_run s.profile i [] [] [] there list m z is good fits) in
    subst (λ k. Joined grammar (opening s.profile) start (marked ∷ k) (marker ++ blocks)) (append-nil parts) (subst (λ t. Joined grammar (opening s.profile) start (marked ∷ (parts ++ [])) (marker ++ t)) (append-nil blocks) r.0)

pub opened : {S : Type 0} (s : Shape) (t : S) (list : List Block) → shape_fault s ≡ None → list_fault info_seen list ≡ None → AllAre FitsFields list
    → StandsFor (unpushed s t) (head_parts (open_info s) list) (head_spelling (open_info s) list)
opened s t list fault good fits =
    let i = open_info s in
    let j = head_run s list (shaped s fault) good fits in
    let all = valid_after s.profile (beginning Truncated) i list (head_spelling i list) j in
    let at = head_leaves s.profile i list all.1 in
    let q = state_after grammar (opening s.profile) (head_parts i list) in
    record {
      stream = record { spelled = j; ends = may_end q i at.phase at.info; kept = kept_at q s at.info };
      info = at.info;
      frames = no_frames (block_of.StreamInfo i ∷ list);
      samples = at.samples;
      before = λ e. at.before;
    }

-- ---- one more frame

is_due : (b number : ℕ) (before : Option Before) → before ≡ due b number → (before ≡ None) ⊎ (before ≡ Some (full_before b number))
is_due b zero before e = inl e
is_due b (suc n) before e = let k : nat_eq (suc n) 0 ≡ false = grind (arith, nat_tests) in inr (e ∙ ap (λ c. cond c None (Some (full_before b (suc n)))) k)

left_due : (b number size : ℕ) (before : Option Before) → before ≡ due b number → size ≡ b → Some (left_by before false number size) ≡ due b (number + 1)
left_due b number size before e is = elim (is_due b number before e) [
  | inl h ↦ let k : nat_eq (number + 1) 0 ≡ false = grind (arith, nat_tests) in rw (h, is, k) refl
  | inr h ↦ let k : nat_eq (number + 1) 0 ≡ false = grind (arith, nat_tests) in rw (h, is, k) refl
]

full : (n b : ℕ) → n ≤ b → nat_lt n b ≡ false → n ≡ b
full n b h e = let k : b ≤ n = not_less n b e in omega (arith, h, k)

pub whole_block : (n : ℕ) (cs : List (List ℤ)) → All (λ c. length c ≡ n) cs → part_of 0 n cs ≡ cs
whole_block n [] h = refl
whole_block n (c ∷ cs) h =
    let here : length c ≡ n = All-head (λ c. length c ≡ n) c cs h in
    ap (λ x. x ∷ part_of 0 n cs) (take_all n c (omega (arith, here))) ∙ ap (λ xs. c ∷ xs) (whole_block n cs (All-tail (λ c. length c ≡ n) c cs h))

-- the frame may stand after frames of the block size
module _ (s : Shape) (q : Shaped s) (number : ℕ) (channels : List (List ℤ)) (many : length channels ≡ s.channels) (small : samples_each channels ≤ s.block_size) where
  abbrev info : Info
  info = open_info s

  abbrev f : Frame
  f = frame_with number channels

  frame_due : (before : Option Before) (m : Mark) (t : List Bool) → m.unread ≡ 0 → before ≡ due s.block_size number → SpellsFrame (sound_of s channels) f t → Spells (frame s.profile info before) (fresh m) t f
  frame_due before m t z left k =
      let h = k.form.header in
      let size = samples_each channels in
      let after = is_due s.block_size number before left in
      let r = encodings_are_frames (sound_of s channels) size number channels k.form info refl refl (sym many) k.encoding in
      let in_rate : size ≤ greatest_in s.profile info.rate = omega (arith, small, q.greatest) in
      let at_most : h.size ≤ s.block_size = omega (arith, r.sized, small) in
      let follows : AllKept (header_rules s.profile info before h) = (
        ap not (r.allowed in_rate),
        (
          same_three (rate_in s.profile info h) info.rate (channels_of h.channel_code) info.channels (depth_in s.profile info h) info.depth r.format.rate r.format.channels r.format.depth,
          (follows_on s.block_size number before h r.fixed r.numbered after, (sized info s.block_size number before h refl refl at_most after, tt)),
        ),
      ) in
      let w = r.frame before follows in
      (frames_spelled s.profile info before (fresh m) t f (keeps_open s q) (fresh_unread m z) (fresh_check8 m z) (fresh_check16 m z)).1 (record {
        form = k.form;
        valid = w.0;
        spelling = k.spelling;
        frame = rw (r.fixed, r.numbered, r.sized) refl;
        samples = w.1;
      })

frames_now : (phase : Phase) (info : Option Info) → may_end_in phase info ≡ true → phase ≡ Frames
frames_now Opening info e = absurd cc
frames_now Blocks info e = absurd cc
frames_now Frames info e = refl

in_room : (phase : Phase) (m : Mark) (t : List Bool) → phase ≡ Frames → m.unread ≡ 0 → length t ≤ 8 * 16777215 → InRoom (room_in phase) m t
in_room phase m t e z short = subst (λ p. InRoom (room_in p) m t) (sym e) (omega (arith, z, short))

pub stands_on : {S : Type 0} (e : Pushed S) (t : S) (channels : List (List ℤ)) (text : List Bool) → shape_fault e.shape ≡ None → length channels ≡ e.shape.channels → samples_each channels ≤ e.shape.block_size → e.ended ≡ false
    → SpellsFrame (sound_of e.shape channels) (frame_with e.number channels) text → (items : List Piece) (before : List Bool) → StandsFor e items before
    → StandsFor (after_block e (samples_each channels) t) (items ++ framed (frame_with e.number channels) ∷ []) (before ++ text)
stands_on e t channels text fault many small going k items before h =
    let s = e.shape in
    let q = shaped s fault in
    let f = frame_with e.number channels in
    let p = state_after grammar (opening e.shape.profile) items in
    let start = beginning Truncated in
    let j = h.stream.spelled in
    let m = mark_after grammar (opening e.shape.profile) start items before j in
    let z : m.unread ≡ 0 = ends_whole (opening e.shape.profile) start items before j nothing_told refl in
    let phase : p.stand.phase ≡ Frames = frames_now p.stand.phase p.stand.info h.stream.ends in
    let due_is = h.before going in
    let here = frame_due s q e.number channels many small p.stand.before m text z due_is k in
    let judged = subst (λ r. Spells (frame r (open_info s) p.stand.before) (fresh m) text f) (sym (after_profile (opening e.shape.profile) items)) here in
    let spelled = as_part p.stand (open_info s) (fresh m) text f phase h.info judged in
    let room = in_room p.stand.phase (fresh m) text phase (fresh_unread m z) k.short in
    let more = Joined-append grammar (opening e.shape.profile) start items (framed f) before text j spelled room in
    let then : state_after grammar (opening e.shape.profile) (items ++ framed f ∷ []) ≡ next p (framed f) = state_after-append grammar (opening e.shape.profile) items (framed f) in
    let r = next p (framed f) in
    let ends : may_end_in r.stand.phase r.stand.info ≡ true = may_end r (open_info s) phase h.info in
    let kept : AllKept (end_rules r.stand.info r.samples r.message) = kept_at r s h.info in
    record {
      stream = record {
        spelled = more.0;
        ends = subst (λ (x : Progress). may_end_in x.stand.phase x.stand.info ≡ true) (sym then) ends;
        kept = subst (λ (x : Progress). AllKept (end_rules x.stand.info x.samples x.message)) (sym then) kept;
      };
      info = ap (λ (x : Progress). x.stand.info) then ∙ h.info;
      frames = frame_more items f ∙ ap (λ n. n + 1) h.frames;
      samples = ap (λ (x : Progress). x.samples) then ∙ ap (λ n. n + samples_each channels) h.samples;
      before = λ is. ap (λ (x : Progress). x.stand.before) then ∙ left_due s.block_size e.number (samples_each channels) p.stand.before due_is (full (samples_each channels) s.block_size small is);
    }

-- ---- a block that is not refused

neither : (o : Option SetupFault) (more : Option EncodeFault) → option_or (option_map Setup o) more ≡ None → (o ≡ None) × (more ≡ None)
neither None more h = (refl, h)
neither (Some f) more h = absurd cc

counts_fit : (n channels : ℕ) → not (nat_eq n channels) ≡ false → 1 ≤ channels → channels ≤ 8 → (n ≡ channels) × ((nat_eq n 0 || nat_lt 8 n) ≡ false)
counts_fit n channels e some few = (grind (arith, nat_tests), grind (arith, nat_tests))

still_room : (samples n number : ℕ) → (nat_le (2 ^ 36) (samples + n) || nat_le (2 ^ 31) number) ≡ false → (samples + n < 2 ^ 36) × (number < 2 ^ 31) × (nat_le (2 ^ 36) n ≡ false)
still_room samples n number e = (grind (arith, nat_tests), grind (arith, nat_tests), grind (arith, nat_tests))

few_each : (n : ℕ) → n ≤ 65535 → nat_le (2 ^ 36) n ≡ false
few_each n few = grind (arith, nat_tests)

-- a block that fits a format can be encoded
pub fits_format : (s : Shape) (block : List (List ℤ)) → shape_fault s ≡ None → block_fault s.channels s.bits block ≡ None → samples_each block ≤ s.block_size → audio_fault s.profile s.rate s.bits block ≡ None
unfolding block_fault audio_fault channels_fault samples_fault
fits_format s block shape h small =
    let q = shaped s shape in
    let c = first_none (not (nat_eq (length block) s.channels)) _ _ h in
    let d = first_none (not (as_long block)) _ _ c.1 in
    let f = first_none (not (each_small s.bits block)) _ _ d.1 in
    let counts = counts_fit (length block) s.channels c.0 q.some q.few in
    let few = few_each (samples_each block) (omega (arith, small, q.small)) in
    rw (q.has_rate, q.has_bits, counts.1, d.0, f.0, few) refl

pub record Accepted {S : Type 0} (e : Pushed S) (block : List (List ℤ)) : Type 0 where
  pub fits : block_fault e.shape.channels e.shape.bits block ≡ None
  pub good : audio_fault e.shape.profile e.shape.rate e.shape.bits block ≡ None
  pub many : length block ≡ e.shape.channels
  pub some : 0 < samples_each block
  pub most : samples_each block ≤ e.shape.block_size
  pub number : e.number < 2 ^ 31
  pub samples : e.samples + samples_each block < 2 ^ 36
  pub going : e.ended ≡ false
  pub unspent : e.spent ≡ false

pub accepted : {S : Type 0} (e : Pushed S) (block : List (List ℤ)) → shape_fault e.shape ≡ None → push_fault e block ≡ None → Accepted e block
unfolding push_fault block_fault size_fault audio_fault channels_fault samples_fault
accepted e block shape h =
    let q = shaped e.shape shape in
    let n = samples_each block in
    let a = first_none e.spent _ _ h in
    let b = neither _ _ a.1 in
    let c = first_none (not (nat_eq (length block) e.shape.channels)) _ _ b.0 in
    let d = first_none (not (as_long block)) _ _ c.1 in
    let f = first_none (not (each_small e.shape.bits block)) _ _ d.1 in
    let g = first_none (nat_le (2 ^ 36) (e.samples + n) || nat_le (2 ^ 31) e.number) _ _ b.1 in
    let i = first_none (nat_eq n 0 || nat_lt e.shape.block_size n) _ _ g.1 in
    let k = first_none e.ended _ _ i.1 in
    let counts = counts_fit (length block) e.shape.channels c.0 q.some q.few in
    let room = still_room e.samples n e.number g.0 in
    let size = either_false _ _ i.0 in
    record {
      fits = b.0;
      good = rw (q.has_rate, q.has_bits, counts.1, d.0, f.0, room.2) refl;
      many = counts.0;
      some = not_zero n size.0;
      most = not_less e.shape.block_size n size.1;
      number = room.1;
      samples = room.0;
      going = k.0;
      unspent = a.0;
    }

-- ---- its frame

module _ (lists : Lists) (a : Sound) (n number : ℕ) (form : FrameForm) (sound : IsSound a) (size : n ≡ samples_each a.channels) where
  whole_here : part_of 0 n a.channels ≡ a.channels
  whole_here = whole_block n a.channels (subst (λ k. All (λ c. length c ≡ k) a.channels) (sym size) sound.long)

  frame_text : (v : Vec ℕ Global) → IsEncoding a n number (part_of 0 n a.channels) form → IsShort a.bits form → bits_of v.items ≡ frame_spelling a.bits form → SpellsFrame a (frame_with number a.channels) (bits_of v.items)
  frame_text v encoded short is = record {
    form = form;
    encoding = subst (λ k. IsEncoding a k number a.channels form) size (subst (λ cs. IsEncoding a n number cs form) whole_here encoded);
    spelling = is;
    short = subst (λ (t : List Bool). length t ≤ 8 * 16777215) (sym is) short;
  }

  pub frame_made : (r : Result (Vec ℕ Global) Why) → IsEncoding a n number (part_of 0 n a.channels) form → IsShort a.bits form → IfOk r (λ v. bits_of v.items ≡ frame_spelling a.bits form)
      → IfOk r (λ v. SpellsFrame a (frame_with number a.channels) (bits_of v.items))
  frame_made (Err e) encoded short is = tt
  frame_made (Ok v) encoded short is = frame_text v encoded short is

  least_text : (v : Vec ℕ Global) → IsLeastByPlane lists a n number (part_of 0 n a.channels) form → bits_of v.items ≡ frame_spelling a.bits form → SpellsLeastByPlane lists a (frame_with number a.channels) (bits_of v.items)
  least_text v chosen is = record {
    form = form;
    least = subst (λ k. IsLeastByPlane lists a k number a.channels form) size (subst (λ cs. IsLeastByPlane lists a n number cs form) whole_here chosen);
    spelling = is;
  }

  pub least_made : (r : Result (Vec ℕ Global) Why) → IsLeastByPlane lists a n number (part_of 0 n a.channels) form → IfOk r (λ v. bits_of v.items ≡ frame_spelling a.bits form)
      → IfOk r (λ v. SpellsLeastByPlane lists a (frame_with number a.channels) (bits_of v.items))
  least_made (Err e) chosen is = tt
  least_made (Ok v) chosen is = least_text v chosen is

-- ---- the tests on a block that is lent

module _ {X : Type 0} (f : X → List ℤ) (xs : List X) (channels bits : ℕ) where
  pub bad_channels : (length xs ≡ channels → ⊥) → Some BadChannels ≡ block_fault channels bits (map f xs)
  unfolding block_fault
  bad_channels h =
      let e : not (nat_eq (length (map f xs)) channels) ≡ true = rw (length-map xs f) (grind (arith, nat_tests)) in
      rw e refl

  pub enough_channels : length xs ≡ channels → samples_fault bits (map f xs) ≡ block_fault channels bits (map f xs)
  unfolding block_fault
  enough_channels h =
      let e : not (nat_eq (length (map f xs)) channels) ≡ false = rw (length-map xs f) (grind (arith, nat_tests)) in
      rw e refl

-- ---- the next frame

pub is_next : {S : Type 0} (old to : Pushed S) (block : List (List ℤ)) (text : List Bool) → shape_fault old.shape ≡ None → Accepted old block → SpellsFrame (sound_of old.shape block) (frame_with old.number block) text
    → SpellsLeastFound old.search old.predictors (sound_of old.shape block) (frame_with old.number block) text → to ≡ after_block old (samples_each block) to.target → IsNext old to block text
is_next old to block text shape accept frame_is least_is is = record {
  spells = frame_is;
  least = least_is;
  stands = λ items before h. subst (λ (p : Pushed _). StandsFor p (items ++ framed (frame_with old.number block) ∷ []) (before ++ text)) (sym is)
      (stands_on old to.target block text shape accept.many accept.most accept.going frame_is items before h);
}

-- ---- an encoder with a target, of one without

module _ {R S : Type 0} (e : Pushed R) (t : S) where
  pub same_fault : (block : List (List ℤ)) → push_fault (with_target e t) block ≡ push_fault e block
  unfolding push_fault size_fault
  same_fault block = refl

  pub fault_seen : (now : Pushed S) (block : List (List ℤ)) → with_target e t ≡ now → push_fault e block ≡ push_fault now block
  fault_seen now block is = sym (same_fault block) ∙ ap (λ (p : Pushed S). push_fault p block) is

  pub stands_with : (items : List Piece) (text : List Bool) → StandsFor e items text → StandsFor (with_target e t) items text
  stands_with items text h = record { stream = h.stream; info = h.info; frames = h.frames; samples = h.samples; before = h.before }

  pub stands_without : (items : List Piece) (text : List Bool) → StandsFor (with_target e t) items text → StandsFor e items text
  stands_without items text h = record { stream = h.stream; info = h.info; frames = h.frames; samples = h.samples; before = h.before }

module _ {R S : Type 0} (g : target.Ghosts S) (old : Pushed R) (u : R) (s t : S) (block : List (List ℤ)) (bytes : List ℕ) (is : IsNext old (after_block old (samples_each block) u) block (bits_of bytes)) where
  next_with : IsNext (with_target old s) (after_block (with_target old s) (samples_each block) t) block (bits_of bytes)
  next_with = record {
    spells = is.spells;
    least = is.least;
    stands = λ items before h. stands_with (after_block old (samples_each block) u) t (items ++ framed (frame_with old.number block) ∷ []) (before ++ bits_of bytes) (is.stands items before (stands_without old s items before h));
  }

  pub pushes : (new : Pushed S) → new ≡ after_block (with_target old s) (samples_each block) t → g.sent t ≡ g.sent s ++ bytes → Pushes g block (with_target old s) new
  pushes new same sent = record {
    text = bits_of bytes;
    next = subst (λ (p : Pushed S). IsNext (with_target old s) p block (bits_of bytes)) (sym same) next_with;
    sent = ap (λ (p : Pushed S). bits_of (g.sent p.target)) same ∙ ap bits_of sent ∙ bits_of-append (g.sent s) bytes;
  }

  pub begins_push : (new : Pushed S) (front rest : List ℕ) → new.target ≡ t → bytes ≡ front ++ rest → g.sent t ≡ g.sent s ++ front → BeginsPush g block (with_target old s) new
  begins_push new front rest same cut sent = record {
    front = bits_of front;
    rest = bits_of rest;
    next = subst (λ x. IsNext (with_target old s) (after_block (with_target old s) (samples_each block) x) block (bits_of front ++ bits_of rest)) (sym same)
        (subst (λ x. IsNext (with_target old s) (after_block (with_target old s) (samples_each block) t) block x) (ap bits_of cut ∙ bits_of-append front rest) next_with);
    sent = ap (λ x. bits_of (g.sent x)) same ∙ ap bits_of sent ∙ bits_of-append (g.sent s) front;
  }

-- ---- what is answered

some_of : (b : Bool) (f : EncodeFault) (rest : Option EncodeFault) → cond b (Some f) rest ≡ Some Write → (f ≡ Write) ⊎ (rest ≡ Some Write)
some_of true f rest e = inl cc
some_of false f rest e = inr e

no_setup : (o : Option SetupFault) (more : Option EncodeFault) → option_or (option_map Setup o) more ≡ Some Write → more ≡ Some Write
no_setup None more e = e
no_setup (Some f) more e = absurd cc

no_size : {S : Type 0} (e : Pushed S) (n : ℕ) → size_fault e n ≡ Some Write → ⊥
unfolding size_fault
no_size e n h = elim (some_of (nat_le (2 ^ 36) (e.samples + n) || nat_le (2 ^ 31) e.number) (Setup TooLong) _ h) [
  | inl k ↦ absurd cc
  | inr k ↦
      elim (some_of (nat_eq n 0 || nat_lt e.shape.block_size n) (Setup BadBlockSize) _ k) [
        | inl l ↦ absurd cc
        | inr l ↦ elim (some_of e.ended BlockSize None l) [
          | inl m ↦ absurd cc
          | inr m ↦ absurd cc
        ]
      ]
]

no_write : {S : Type 0} (e : Pushed S) (block : List (List ℤ)) → push_fault e block ≡ Some Write → ⊥
unfolding push_fault
no_write e block h = elim (some_of e.spent Spent _ h) [
  | inl k ↦ absurd cc
  | inr k ↦ no_size e (samples_each block) (no_setup (block_fault e.shape.channels e.shape.bits block) (size_fault e (samples_each block)) k)
]

-- what a block is refused for is no error of the target
pub never_write : {S X : Type 0} (e : Pushed S) (block : List (List ℤ)) (o : Option EncodeFault) (f : EncodeFault) → o ≡ push_fault e block → o ≡ Some f → f ≡ Write → X
never_write e block o f at is w = absurd (no_write e block (sym at ∙ is ∙ ap (λ k. Some k) w))

pub not_refused : {S : Type 0} (k e : Pushed S) (block : List (List ℤ)) (o : Option EncodeFault) → k ≡ e → shape_fault k.shape ≡ None → o ≡ push_fault e block → o ≡ None → Accepted k block
not_refused k e block o is shape at none = accepted k block shape (subst (λ (x : Pushed _). push_fault x block ≡ None) (sym is) (sym at ∙ none))
