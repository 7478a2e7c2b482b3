-- A cursor in a stream: the frame there is the stream's next one, and the cursor after it stands in the same stream.
use Rattle.std.proofs.Common.{◌≡◌, ◌⊎◌, inl, inr, ℤ, ℕ, ◌+◌, ◌-◌, ◌*◌, ◌/◌, ◌%◌, ◌≤◌, Bool, true, false, not, ◌&&◌, ◌||◌, nat_eq, nat_lt, List, [], ◌∷◌, ◌++◌, length, take, drop, Option, Some, None, refl, sym, ap, subst, ◌∙◌, append_assoc, length-append, arith}
use Rattle.std.proofs.lemmas.Bool.Decides.{nat_tests}
use Rattle.std.proofs.lemmas.List.{take-append-drop, length-drop}
use Rattle.std.proofs.Math.Seq.{take-append_seam}
use Rattle.flac_bits.specs.Bits.{bits_of}
use Rattle.flac_bits.specs.State.{Mark, past, fresh}
use Rattle.flac_bits.specs.Meaning.{Spells, AllKept}
use Rattle.flac_bits.specs.Fence.{InRoom}
use Rattle.flac_bits.specs.Items.{Joined, Stream, state_after, mark_after}
use Rattle.flac_bits.specs.declared.why.Why.TheVariants.{Truncated}
use Rattle.flac_bits.proofs.Fencing.{take_bits}
use Rattle.flac_bits.proofs.Handing.{Joined-append, state_after-append}
use Rattle.flac_bits.proofs.Holding.{length-bits_of, bits_of-append}
use Rattle.flac_bits.proofs.ItemSpellings.{fresh_unread, fresh_check8, fresh_check16, after_whole}
use Rattle.flac_info.specs.Info.{Info, KeepsRules, without_totals}
use Rattle.flac_header.specs.declared.subset.Profile.{Profile}
use Rattle.flac_frame.specs.Frame.{Frame, frame, header_rules}
use Rattle.flac_frame.specs.Spelling.{FrameForm}
use Rattle.flac_frame.specs.declared.before.Before.{Before}
use Rattle.flac_frame.proofs.FrameTie.{frames_spelled}
use Rattle.flac_native.specs.Decoding.{beginning}
use Rattle.flac_native.specs.Stream.{Piece, framed, Stand, Progress, grammar, opening, next, layout, room_in}
use Rattle.flac_native.specs.declared.track.Phase.{Phase}
use Rattle.flac_native.specs.declared.track.Phase.TheVariants.{Opening, Blocks, Frames}
use Rattle.flac_native.proofs.Blocks.{block_there, marker_there}
use Rattle.flac_native.proofs.OneHead.{heads}
use Rattle.flac_native.proofs.Onwards.{Told, nothing_told, step_of, frame_there, same_info, without_totals_rules, after_profile}
use Rattle.flac_c.specs.Cursors.{info_from_c, passed, HandsOver, StandsIn, GoesOn}
use Rattle.flac_native.specs.FrameAt.{IsFrameAt}
use Rattle.flac_c.specs.declared.cursor.FlacProvedCursor.{FlacProvedCursor}
use Rattle.flac_native.proofs.FramesRead.{frame_whole, left_after}

-- ---- a frame, read as the first

at_most : (v : Bool) (greatest least first size before : ℕ) → (nat_lt greatest size || nat_lt before least || (not v && (not (nat_eq before first) || nat_lt first size))) ≡ false → nat_lt greatest size ≡ false
at_most true greatest least first size before e = grind (arith, nat_tests)
at_most false greatest least first size before e = grind (arith, nat_tests)

-- what keeps the rules after other frames keeps them as the first
first_kept : (profile : Profile) (i : Info) (before : Option Before) (g : FrameForm) → AllKept (header_rules profile i before g.header) → AllKept (header_rules profile (without_totals i) None g.header)
first_kept profile i None g k = k
first_kept profile i (Some b) g k = (k.0, (k.1.0, (refl, (at_most g.header.variable i.greatest_block i.least_block b.first_size g.header.size b.size k.1.1.1.0, tt))))

frame_alone : (profile : Profile) (i : Info) (before : Option Before) (m : Mark) (text : List Bool) (f : Frame) → KeepsRules i → m.unread ≡ 0 → Spells (frame profile i before) (fresh m) text f → Spells (frame profile (without_totals i) None) (beginning Truncated) text f
frame_alone profile i before m text f rules u h =
    let s = (frames_spelled profile i before (fresh m) text f rules (fresh_unread m u) (fresh_check8 m u) (fresh_check16 m u)).0 h in
    let v = s.valid in
    (frames_spelled profile (without_totals i) None (beginning Truncated) text f (without_totals_rules i rules) refl refl refl).1 (record {
      form = s.form;
      valid = record { header = v.header; follows = first_kept profile i before s.form v.follows; many = v.many; subframes = v.subframes };
      spelling = s.spelling;
      frame = s.frame;
      samples = s.samples;
    })

-- ---- the parts before

-- these parts, then one part, and the rest
record Parted (p : Progress) (m : Mark) (front : List Piece) (x : Piece) (text : List Bool) : Type 0 where
  head : List Bool
  here : List Bool
  rest : List Bool
  split : text ≡ head ++ (here ++ rest)
  joined : Joined grammar p m front head
  spelled : Spells (layout (state_after grammar p front).stand) (fresh (mark_after grammar p m front head joined)) here x
  fits : InRoom (room_in (state_after grammar p front).stand.phase) (fresh (mark_after grammar p m front head joined)) here
  told : Told (state_after grammar p front).stand.info
  whole : (mark_after grammar p m front head joined).unread ≡ 0

parted : (p : Progress) (m : Mark) (front : List Piece) (x : Piece) (more : List Piece) (text : List Bool) → Told p.stand.info → m.unread ≡ 0 → Joined grammar p m (front ++ x ∷ more) text → Parted p m front x text
parted p m [] x more text told u (part, rest, split, spelled, fits, others) =
    record { head = []; here = part; rest = rest; split = split; joined = refl; spelled = spelled; fits = fits; told = told; whole = u }
parted p m (y ∷ ys) x more text told u (part, rest, split, spelled, fits, others) =
    let s = step_of p.stand m part y told u spelled in
    let r = parted (next p y) (past part (fresh m)) ys x more rest s.rules (after_whole part (fresh m) (fresh_unread m u) s.whole) others in
    record {
      head = part ++ r.head;
      here = r.here;
      rest = r.rest;
      split = split ∙ ap (λ (t : List Bool). part ++ t) r.split ∙ sym (append_assoc part r.head (r.here ++ r.rest));
      joined = (part, r.head, refl, spelled, fits, r.joined);
      spelled = r.spelled;
      fits = r.fits;
      told = r.told;
      whole = r.whole;
    }

pub one_place : (p : Progress) (m : Mark) (items : List Piece) (front left head rest : List Bool) → front ++ left ≡ head ++ rest → Joined grammar p m items front → Joined grammar p m items head → left ≡ rest
one_place p m [] front left head rest e j k = ap (λ (t : List Bool). t ++ left) (sym j) ∙ e ∙ ap (λ (t : List Bool). t ++ rest) k
one_place p m (x ∷ xs) front left head rest e j k =
    let h = heads p m x x xs xs front left head rest e j k in
    one_place (next p x) h.3 xs h.1 left h.2 rest h.4 h.5 h.6

phase_there : (s : Stand) (m : Mark) (text : List Bool) (f : Frame) → Spells (layout s) m text (framed f) → s.phase ≡ Frames
phase_there s m text f h = go s.phase refl
  where
    go : (k : Phase) → s.phase ≡ k → s.phase ≡ Frames
    go Opening e = let g = (marker_there s m text (framed f) e h).0 in absurd cc
    go Blocks e = let t = block_there s m text (framed f) e h in let g = t.part in absurd cc
    go Frames e = e

one_frame : (f g : Frame) → framed f ≡ framed g → g ≡ f
one_frame f g e = cc

-- the first bytes of a list
front_is : (bytes : List ℕ) (text left : List Bool) (n : ℕ) → bits_of bytes ≡ text ++ left → length text ≡ 8 * n → text ≡ bits_of (take n bytes)
front_is bytes text left n split long = sym (take-append_seam text left) ∙ ap (λ k. take k (text ++ left)) long ∙ ap (λ t. take (8 * n) t) (sym split) ∙ take_bits n bytes

-- ---- a frame at a cursor

-- The next frame is there.
pub record NextIn (profile : Profile) (bytes : List ℕ) (c : FlacProvedCursor) (front more : List Piece) (f : Frame) : Type 0 where
  pub n : ℕ
  pub rules : KeepsRules (info_from_c c.info)
  pub at : IsFrameAt profile (info_from_c c.info) (drop c.offset bytes) f n
  pub after : StandsIn profile bytes (passed c f (c.offset + n)) (front ++ framed f ∷ []) more

pub next_in : (profile : Profile) (bytes : List ℕ) (c : FlacProvedCursor) (front more : List Piece) (f : Frame) → StandsIn profile bytes c front (framed f ∷ more) → NextIn profile bytes c front more f
next_in profile bytes c front more f h =
    let o : ℕ = c.offset in
    let q = parted (opening profile) (beginning Truncated) front (framed f) more (bits_of bytes) nothing_told refl h.stream.spelled in
    let m : Mark = mark_after grammar (opening profile) (beginning Truncated) front q.head q.joined in
    let s : Stand = (state_after grammar (opening profile) front).stand in
    let all : bits_of bytes ≡ bits_of (take o bytes) ++ bits_of (drop o bytes) = ap (λ (l : List ℕ). bits_of l) (sym (take-append-drop o bytes)) ∙ bits_of-append (take o bytes) (drop o bytes) in
    let left_is : q.here ++ q.rest ≡ bits_of (drop o bytes) = one_place (opening profile) (beginning Truncated) front q.head (q.here ++ q.rest) (bits_of (take o bytes)) (bits_of (drop o bytes)) (sym q.split ∙ all) q.joined h.spelled in
    let phase : s.phase ≡ Frames = phase_there s (fresh m) q.here f q.spelled in
    let t = frame_there s (fresh m) q.here (framed f) phase q.spelled in
    let info_is : t.info ≡ h.info = same_info h.info t.info s.info h.told t.told in
    let frame_is : t.is ≡ f = one_frame f t.is t.part in
    let judged = subst (λ k. Spells (frame k t.info s.before) (fresh m) q.here t.is) (after_profile (opening profile) front) t.spelled in
    let spelled = subst (λ (g : Frame). Spells (frame profile h.info s.before) (fresh m) q.here g) frame_is (subst (λ (i : Info). Spells (frame profile i s.before) (fresh m) q.here t.is) info_is judged) in
    let rules : KeepsRules h.info = q.told h.info h.told in
    let rules' : KeepsRules (without_totals h.info) = without_totals_rules h.info rules in
    let alone = frame_alone profile h.info s.before m q.here f rules q.whole spelled in
    let whole : length q.here % 8 ≡ 0 = frame_whole profile (without_totals h.info) q.here f rules' alone in
    let n : ℕ = length q.here / 8 in
    let long : length q.here ≡ 8 * n = omega (arith, whole) in
    let rest_is : q.rest ≡ bits_of (drop n (drop o bytes)) = left_after (drop o bytes) q.here q.rest n (sym left_is) long in
    let sum : length q.here + length q.rest ≡ 8 * length (drop o bytes) = sym (length-append q.here q.rest) ∙ ap (λ (l : List Bool). length l) left_is ∙ length-bits_of (drop o bytes) in
    let within : n ≤ length (drop o bytes) = omega (arith, sum, long) in
    let dropped : length (drop o bytes) ≡ length bytes - o = length-drop o bytes in
    let before : o ≤ length bytes = h.before in
    let fence : InRoom (Some 16777215) (fresh m) q.here = subst (λ k. InRoom (room_in k) (fresh m) q.here) phase q.fits in
    let z : (fresh m).unread ≡ 0 = fresh_unread m q.whole in
    let room : InRoom (Some 16777215) (beginning Truncated) q.here = omega (arith, z, fence) in
    let at : IsFrameAt profile (without_totals h.info) (drop o bytes) f n = record { text = q.here; split = sym left_is ∙ ap (λ l. q.here ++ l) rest_is; within = within; spelled = alone; room = room } in
    let heads_are : bits_of bytes ≡ (q.head ++ q.here) ++ q.rest = q.split ∙ sym (append_assoc q.head q.here q.rest) in
    let total : 8 * length bytes ≡ length q.head + length q.here + length q.rest =
    sym (length-bits_of bytes) ∙ ap (λ (l : List Bool). length l) heads_are ∙ length-append (q.head ++ q.here) q.rest ∙ ap (λ k. k + length q.rest) (length-append q.head q.here) in
    let both : length (q.head ++ q.here) ≡ 8 * (o + n) = length-append q.head q.here ∙ omega (arith, total, sum, dropped, before, long) in
    let text_is : q.head ++ q.here ≡ bits_of (take (o + n) bytes) = front_is bytes (q.head ++ q.here) q.rest (o + n) heads_are both in
    let j = Joined-append grammar (opening profile) (beginning Truncated) front (framed f) q.head q.here q.joined q.spelled q.fits in
    let parts_are : front ++ framed f ∷ more ≡ (front ++ framed f ∷ []) ++ more = sym (append_assoc front (framed f ∷ []) more) in
    let after_is : state_after grammar (opening profile) (front ++ framed f ∷ []) ≡ next (state_after grammar (opening profile) front) (framed f) = state_after-append grammar (opening profile) front (framed f) in
    record {
      n = n;
      rules = subst KeepsRules (sym h.same) rules';
      at = subst (λ (i : Info). IsFrameAt profile i (drop o bytes) f n) (sym h.same) at;
      after = record {
        stream = subst (λ (l : List Piece). Stream grammar (opening profile) (beginning Truncated) l (bits_of bytes)) parts_are h.stream;
        before = omega (arith, before, within, dropped);
        spelled = subst (λ (l : List Bool). Joined grammar (opening profile) (beginning Truncated) (front ++ framed f ∷ []) l) text_is j.0;
        info = h.info;
        told = ap (λ (p : Progress). p.stand.info) after_is ∙ h.told;
        same = h.same;
      };
    }

-- A call that hands over each frame that is there goes on in a stream.
pub goes_on : (profile : Profile) (bytes : List ℕ) (old new : FlacProvedCursor) (out written : List ℤ) (len result : ℕ)
    → (KeepsRules (info_from_c old.info) → (f : Frame) (n : ℕ) → IsFrameAt profile (info_from_c old.info) (drop old.offset bytes) f n → (result ≡ 2) ⊎ ((result ≡ 0) × HandsOver f (old.offset + n) old new out written len))
    → (front more : List Piece) (f : Frame) → StandsIn profile bytes old front (framed f ∷ more) → (result ≡ 2) ⊎ ((result ≡ 0) × GoesOn profile bytes old new out written len front more f)
goes_on profile bytes old new out written len result frames front more f h =
    let x = next_in profile bytes old front more f h in
    elim (frames x.rules f x.n x.at) [ inl two ↦ inl two | inr (zero_is, over) ↦ inr (zero_is, (old.offset + x.n, over, x.after)) ]
