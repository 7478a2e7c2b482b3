-- What is read from a frame on is what the stream has there.
use Rattle.std.proofs.Common.{◌≡◌, ℕ, ◌%◌, Bool, true, false, not, cond, ◌&&◌, ◌||◌, nat_eq, nat_lt, List, [], ◌∷◌, ◌++◌, length, append_assoc, Option, Some, None, refl, sym, ap, subst, ◌∙◌, arith}
use Rattle.std.specs.Bool.{⊤}
use Rattle.std.proofs.lemmas.Bool.Decides.{nat_tests}
use Rattle.std.proofs.lemmas.List.{append-nil}
use Rattle.flac_bits.specs.State.{Mark, past, fresh}
use Rattle.flac_bits.specs.Meaning.{Spells, AllKept}
use Rattle.flac_bits.specs.Fence.{InRoom}
use Rattle.flac_bits.specs.Items.{Joined, Stream, state_after}
use Rattle.flac_bits.proofs.ItemSpellings.{fresh_unread, fresh_check8, fresh_check16, after_whole}
use Rattle.flac_header.specs.Header.{Header}
use Rattle.flac_header.specs.declared.subset.Profile.{Profile}
use Rattle.flac_info.specs.Info.{Info, KeepsRules, without_totals}
use Rattle.flac_meta.specs.Valid.{FitsFields}
use Rattle.flac_meta.specs.declared.block.Block.{Block}
use Rattle.flac_meta.specs.declared.block.Block.TheVariants as block_of
use Rattle.flac_frame.specs.Frame.{Frame, frame, header_rules, left_by, after_frame}
use Rattle.flac_frame.specs.declared.before.Before.{Before}
use Rattle.flac_frame.proofs.FrameTie.{frames_spelled, frames_bytes}
use Rattle.flac_native.specs.Resuming.{resumed, Resumes, FramesAreResumed}
use Rattle.flac_native.specs.Stream.{Piece, marked, block, framed, Stand, Progress, grammar, opening, next, layout, layout_in, frame_after, room_in, may_end_in, end_rules, info_after}
use Rattle.flac_native.specs.declared.track.Phase.{Phase}
use Rattle.flac_native.specs.declared.track.Phase.TheVariants.{Opening, Blocks, Frames}
use Rattle.flac_native.proofs.Blocks.{block_there, marker_there, block_long}
use Rattle.flac_native.proofs.OneHead.{heads}

-- ---- what a header is judged by, after more frames and after fewer

-- The same but for the first size, which is the same where the size before is that of the first, as it is with fixed
-- blocking.
record Alike (new old : Before) : Type 0 where
  variable : new.variable ≡ old.variable
  number : new.next ≡ old.next
  size : new.size ≡ old.size
  first : old.variable ≡ false → old.size ≡ old.first_size → new.first_size ≡ old.first_size

abbrev AreAlike : Option Before → Option Before → Type 0
AreAlike None old = ⊤
AreAlike (Some b) None = ⊥
AreAlike (Some b) (Some c) = Alike b c

fixed_before : (v w c : Bool) → (cond v (not w) w || c) ≡ false → v ≡ false → w ≡ false
fixed_before true w c e h = absurd cc
fixed_before false true c e h = absurd cc
fixed_before false false c e h = refl

at_most : (v : Bool) (greatest least first size before : ℕ) → (nat_lt greatest size || nat_lt before least || (not v && (not (nat_eq before first) || nat_lt first size))) ≡ false → nat_lt greatest size ≡ false
at_most true greatest least first size before e = grind (arith, nat_tests)
at_most false greatest least first size before e = grind (arith, nat_tests)

of_first : (v : Bool) (greatest least first size before : ℕ) → (nat_lt greatest size || nat_lt before least || (not v && (not (nat_eq before first) || nat_lt first size))) ≡ false → v ≡ false → before ≡ first
of_first true greatest least first size before e h = absurd cc
of_first false greatest least first size before e h = grind (arith, nat_tests)

sizes_kept : (v : Bool) (greatest least first other size before : ℕ) → (v ≡ false → other ≡ first)
    → (nat_lt greatest size || nat_lt before least || (not v && (not (nat_eq before first) || nat_lt first size))) ≡ false
    → (nat_lt greatest size || nat_lt before least || (not v && (not (nat_eq before other) || nat_lt other size))) ≡ false
sizes_kept true greatest least first other size before same e = e
sizes_kept false greatest least first other size before same e = rw (same refl) e

-- with fixed blocking the first sizes are the same
same_first : (profile : Profile) (i : Info) (new old : Before) (h : Header) → Alike new old → AllKept (header_rules profile i (Some old) h) → h.variable ≡ false → new.first_size ≡ old.first_size
same_first profile i new old h a k fixed =
    a.first (fixed_before h.variable old.variable _ k.1.1.0 fixed) (of_first h.variable i.greatest_block i.least_block old.first_size h.size old.size k.1.1.1.0 fixed)

-- what keeps the rules after more frames keeps them after fewer
rules_kept : (profile : Profile) (i : Info) (new old : Option Before) (h : Header) → AreAlike new old → AllKept (header_rules profile i old h) → AllKept (header_rules profile (without_totals i) new h)
rules_kept profile i None None h a k = k
rules_kept profile i None (Some old) h a k = (k.0, (k.1.0, (refl, (at_most h.variable i.greatest_block i.least_block old.first_size h.size old.size k.1.1.1.0, tt))))
rules_kept profile i (Some new) None h a k = absurd a
rules_kept profile i (Some new) (Some old) h a k = (
  k.0,
  (
    k.1.0,
    (
      rw (a.variable, a.number) k.1.1.0,
      (rw a.size (sizes_kept h.variable i.greatest_block i.least_block old.first_size new.first_size h.size old.size (same_first profile i new old h a k) k.1.1.1.0), tt),
    ),
  ),
)

-- and they leave the same
left_alike : (profile : Profile) (i : Info) (new old : Option Before) (h : Header) → AreAlike new old → AllKept (header_rules profile i old h) → Alike (left_by new h.variable h.number h.size) (left_by old h.variable h.number h.size)
left_alike profile i None None h a k = record { variable = refl; number = refl; size = refl; first = λ _ _. refl }
left_alike profile i None (Some old) h a k = record { variable = refl; number = refl; size = refl; first = λ _ e. e }
left_alike profile i (Some new) None h a k = absurd a
left_alike profile i (Some new) (Some old) h a k = record { variable = refl; number = refl; size = refl; first = λ fixed _. same_first profile i new old h a k fixed }

-- ---- a frame

pub without_totals_rules : (i : Info) → KeepsRules i → KeepsRules (without_totals i)
without_totals_rules i r = record {
  least_block = r.least_block;
  blocks = r.blocks;
  greatest_block = r.greatest_block;
  least_frame = r.least_frame;
  greatest_frame = r.greatest_frame;
  least_rate = r.least_rate;
  rate = r.rate;
  least_channels = r.least_channels;
  channels = r.channels;
  least_depth = r.least_depth;
  depth = r.depth;
  total = omega arith;
}

record Again (profile : Profile) (i : Info) (new old : Option Before) (k : Mark) (text : List Bool) (f : Frame) : Type 0 where
  spelled : Spells (frame profile (without_totals i) new) (fresh k) text f
  alike : Alike (after_frame new f) (after_frame old f)
  whole : length text % 8 ≡ 0

frame_again : (profile : Profile) (i : Info) (new old : Option Before) (m k : Mark) (text : List Bool) (f : Frame) → KeepsRules i → m.unread ≡ 0 → k.unread ≡ 0 → AreAlike new old → Spells (frame profile i old) (fresh m) text f → Again profile i new old k text f
frame_again profile i new old m k text f rules u z a h =
    let s = (frames_spelled profile i old (fresh m) text f rules (fresh_unread m u) (fresh_check8 m u) (fresh_check16 m u)).0 h in
    let v = s.valid in
    let g = s.form.header in
    let left = left_alike profile i new old g a v.follows in
    record {
      spelled = (frames_spelled profile (without_totals i) new (fresh k) text f (without_totals_rules i rules) (fresh_unread k z) (fresh_check8 k z) (fresh_check16 k z)).1 (record {
        form = s.form;
        valid = record { header = v.header; follows = rules_kept profile i new old g a v.follows; many = v.many; subframes = v.subframes };
        spelling = s.spelling;
        frame = s.frame;
        samples = s.samples;
      });
      alike = subst (λ (x : Frame). Alike (after_frame new x) (after_frame old x)) (sym s.frame) left;
      whole = ap (λ (t : List Bool). length t % 8) s.spelling ∙ frames_bytes i.depth s.form;
    }

-- ---- a part

-- where a frame comes
pub record FrameThere (s : Stand) (m : Mark) (text : List Bool) (x : Piece) : Type 0 where
  pub info : Info
  pub told : s.info ≡ Some info
  pub is : Frame
  pub part : x ≡ framed is
  pub spelled : Spells (frame s.profile info s.before) m text is

told_there : (profile : Profile) (info : Option Info) (before : Option Before) (m : Mark) (text : List Bool) (f : Frame) → Spells (frame_after profile info before) m text f → (i : Info) × (info ≡ Some i) × Spells (frame profile i before) m text f
unfolding frame_after
told_there profile None before m text f h = absurd h
told_there profile (Some i) before m text f h = (i, refl, h)

in_frames : (s : Stand) (m : Mark) (text : List Bool) (x : Piece) → Spells (layout_in Frames s) m text x → FrameThere s m text x
in_frames s m text x (f, front, rest, split, spelled, (none, same)) =
    let t : text ≡ front = split ∙ ap (λ (k : List Bool). front ++ k) none ∙ append-nil front in
    let h = told_there s.profile s.info s.before m front f spelled in
    record { info = h.0; told = h.1; is = f; part = sym same; spelled = subst (λ k. Spells (frame s.profile h.0 s.before) m k f) (sym t) h.2 }

pub frame_there : (s : Stand) (m : Mark) (text : List Bool) (x : Piece) → s.phase ≡ Frames → Spells (layout s) m text x → FrameThere s m text x
unfolding layout
frame_there s m text x phase h = in_frames s m text x (subst (λ k. Spells (layout_in k s) m text x) phase h)

pub as_part : (s : Stand) (i : Info) (m : Mark) (text : List Bool) (f : Frame) → s.phase ≡ Frames → s.info ≡ Some i → Spells (frame s.profile i s.before) m text f → Spells (layout s) m text (framed f)
unfolding layout frame_after
as_part s i m text f phase told h = subst (λ k. Spells (layout_in k s) m text (framed f)) (sym phase) (f, text, [], sym (append-nil text), subst (λ o. Spells (frame_after s.profile o s.before) m text f) (sym told) h, (refl, refl))

-- where a frame stands no other part comes
phase_there : (s : Stand) (m : Mark) (text : List Bool) (f : Frame) → Spells (layout s) m text (framed f) → s.phase ≡ Frames
phase_there s m text f h = go s.phase refl
  where
    go : (k : Phase) → s.phase ≡ k → s.phase ≡ Frames
    go Opening e = let g = (marker_there s m text (framed f) e h).0 in absurd cc
    go Blocks e = let t = block_there s m text (framed f) e h in let g = t.part in absurd cc
    go Frames e = e

-- ---- all frames

-- Frames come, of which this is said.
record Onwards (i : Info) (new old : Progress) : Type 0 where
  phase : old.stand.phase ≡ Frames
  info : old.stand.info ≡ Some i
  phase_new : new.stand.phase ≡ Frames
  info_new : new.stand.info ≡ Some (without_totals i)
  before : AreAlike new.stand.before old.stand.before
  judged : old.stand.profile ≡ new.stand.profile

room_again : (new old : Phase) (m k : Mark) (text : List Bool) → old ≡ Frames → new ≡ Frames → m.unread ≡ 0 → k.unread ≡ 0 → InRoom (room_in old) m text → InRoom (room_in new) k text
room_again new old m k text e f u z h =
    let in_old : InRoom (Some 16777215) m text = subst (λ p. InRoom (room_in p) m text) e h in
    let in_new : InRoom (Some 16777215) k text = omega (arith, u, z, in_old) in
    subst (λ p. InRoom (room_in p) k text) (sym f) in_new

pub same_info : (i j : Info) (o : Option Info) → o ≡ Some i → o ≡ Some j → j ≡ i
same_info i j None e f = absurd cc
same_info i j (Some k) e f = cc

abbrev Runs : Progress → Mark → List Piece → List Bool → Type 0
Runs new k items text = Joined grammar new k items text × ((state_after grammar new items).stand.phase ≡ Frames) × ((i : Info) × ((state_after grammar new items).stand.info ≡ Some (without_totals i)))

frames_again : (i : Info) (new old : Progress) (m k : Mark) (items : List Piece) (text : List Bool) → KeepsRules i → m.unread ≡ 0 → k.unread ≡ 0 → Onwards i new old → Joined grammar old m items text → Runs new k items text
frames_again i new old m k [] text rules u z o j = (j, o.phase_new, (i, o.info_new))
frames_again i new old m k (x ∷ xs) text rules u z o (front, rest, split, spelled, fits, others) =
    let t = frame_there old.stand (fresh m) front x o.phase spelled in
    let f = t.is in
    let same : t.info ≡ i = same_info i t.info old.stand.info o.info t.told in
    let a = frame_again old.stand.profile i new.stand.before old.stand.before m k front f rules u z o.before (subst (λ j. Spells (frame old.stand.profile j old.stand.before) (fresh m) front f) same t.spelled) in
    let onwards : Onwards i (next new (framed f)) (next old (framed f)) = record { phase = o.phase; info = o.info; phase_new = o.phase_new; info_new = o.info_new; before = a.alike; judged = o.judged } in
    let more = frames_again i (next new (framed f)) (next old (framed f)) (past front (fresh m)) (past front (fresh k)) xs rest rules (after_whole front (fresh m) (fresh_unread m u) a.whole) (after_whole front (fresh k) (fresh_unread k z) a.whole) onwards
    (subst (λ y. Joined grammar (next old y) (past front (fresh m)) xs rest) t.part others) in
    let spelled_new = subst (λ q. Spells (frame q (without_totals i) new.stand.before) (fresh k) front f) o.judged a.spelled in
    let here = as_part new.stand (without_totals i) (fresh k) front f o.phase_new o.info_new spelled_new in
    let room = room_again new.stand.phase old.stand.phase (fresh m) (fresh k) front o.phase o.phase_new (fresh_unread m u) (fresh_unread k z) fits in
    let all : Runs new k (framed f ∷ xs) text = ((front, rest, split, here, room, more.0), more.1, more.2) in
    subst (λ y. Runs new k (y ∷ xs) text) (sym t.part) all

may_end : (p : Progress) (i : Info) → p.stand.phase ≡ Frames → p.stand.info ≡ Some i → may_end_in p.stand.phase p.stand.info ≡ true
may_end p i e f = rw (e, f) refl

pub ends_well : (info : Option Info) (i : Info) (samples : ℕ) (message : List ℕ) → info ≡ Some (without_totals i) → AllKept (end_rules info samples message)
unfolding end_rules
ends_well info i samples message e = rw e (refl, (refl, tt))

-- ---- the parts before

-- what was told keeps the rules
abbrev pub Told : Option Info → Type 0
Told info = (i : Info) → info ≡ Some i → KeepsRules i

pub record Step (s : Stand) (x : Piece) (text : List Bool) : Type 0 where
  pub whole : length text % 8 ≡ 0
  pub rules : Told (next (record { stand = s; samples = 0; message = [] }) x).stand.info

info_rules : (o : Option Info) (b : Block) → Told o → FitsFields b → Told (info_after o b)
info_rules o (block_of.StreamInfo j) told fits i e = let same : j ≡ i = cc in subst KeepsRules same fits.rules
info_rules o (block_of.Padding n) told fits i e = told i e
info_rules o (block_of.Application id bytes) told fits i e = told i e
info_rules o (block_of.SeekTable points) told fits i e = told i e
info_rules o (block_of.VorbisComment found) told fits i e = told i e
info_rules o (block_of.CueSheet found) told fits i e = told i e
info_rules o (block_of.Picture found) told fits i e = told i e
info_rules o (block_of.Other kind bytes) told fits i e = told i e

abbrev IsStep : Stand → List Bool → Piece → Type 0
IsStep s text x = Step s x text

pub step_of : (s : Stand) (m : Mark) (text : List Bool) (x : Piece) → Told s.info → m.unread ≡ 0 → Spells (layout s) (fresh m) text x → Step s x text
step_of s m text x told u h = go s.phase refl
  where
    go : (k : Phase) → s.phase ≡ k → Step s x text
    go Opening e =
        let g = marker_there s (fresh m) text x e h in
        let step : IsStep s text marked = record { whole = omega (arith, g.1); rules = told } in
        subst (IsStep s text) (sym g.0) step
    go Blocks e =
        let t = block_there s (fresh m) text x e h in
        let step : IsStep s text (block t.last t.is) = record { whole = (block_long t.last t.is text t.spelled).bytes; rules = info_rules s.info t.is told t.valid.fits } in
        subst (IsStep s text) (sym t.part) step
    go Frames e =
        let t = frame_there s (fresh m) text x e h in
        let a = frame_again s.profile t.info s.before s.before m m text t.is (told t.info t.told) u u (self s.before) t.spelled in
        let step : IsStep s text (framed t.is) = record { whole = a.whole; rules = told } in
        subst (IsStep s text) (sym t.part) step
      where
        self : (b : Option Before) → AreAlike b b
        self None = tt
        self (Some b) = record { variable = refl; number = refl; size = refl; first = λ _ _. refl }

-- ---- one place

pub one_place : (p : Progress) (m : Mark) (items : List Piece) (front left head rest : List Bool) → front ++ left ≡ head ++ rest → Joined grammar p m items front → Joined grammar p m items head → left ≡ rest
one_place p m [] front left head rest e j k = ap (λ (t : List Bool). t ++ left) (sym j) ∙ e ∙ ap (λ (t : List Bool). t ++ rest) k
one_place p m (x ∷ xs) front left head rest e j k =
    let h = heads p m x x xs xs front left head rest e j k in
    one_place (next p x) h.3 xs h.1 left h.2 rest h.4 h.5 h.6

-- no part changes the profile
pub next_profile : (p : Progress) (x : Piece) → (next p x).stand.profile ≡ p.stand.profile
next_profile p marked = refl
next_profile p (block last b) = refl
next_profile p (framed f) = refl

pub after_profile : (p : Progress) (items : List Piece) → (state_after grammar p items).stand.profile ≡ p.stand.profile
after_profile p [] = refl
after_profile p (x ∷ xs) = after_profile (next p x) xs ∙ next_profile p x

-- ---- the whole

resumed_at : (p : Progress) (m k : Mark) (front more : List Piece) (f : Frame) (text : List Bool) → Told p.stand.info → m.unread ≡ 0 → k.unread ≡ 0 → Joined grammar p m (front ++ framed f ∷ more) text → Resumes p m k front f more text
resumed_at p m k [] more f text told u z j =
    let phase = phase_there p.stand (fresh m) j.0 f j.3 in
    let t = frame_there p.stand (fresh m) j.0 (framed f) phase j.3 in
    let i = t.info in
    let start = resumed p.stand.profile i in
    let onwards : Onwards i start p = record { phase = phase; info = t.told; phase_new = refl; info_new = refl; before = tt; judged = refl } in
    let r = frames_again i start p m k (framed f ∷ more) text (told i t.told) u z onwards j in
    let q = state_after grammar start (framed f ∷ more) in
    record {
      before = [];
      rest = text;
      split = refl;
      spelled = refl;
      only = λ head left e none. one_place p m [] head left [] text (sym e) none refl;
      info = i;
      told = t.told;
      stream = record { spelled = r.0; ends = may_end q (without_totals r.2.0) r.1 r.2.1; kept = ends_well q.stand.info r.2.0 q.samples q.message r.2.1 };
    }
resumed_at p m k (x ∷ xs) more f text told u z (part, rest, split, spelled, fits, others) =
    let s = step_of p.stand m part x told u spelled in
    let r = resumed_at (next p x) (past part (fresh m)) k xs more f rest s.rules (after_whole part (fresh m) (fresh_unread m u) s.whole) z others in
    let whole : text ≡ (part ++ r.before) ++ r.rest = split ∙ ap (λ (t : List Bool). part ++ t) r.split ∙ sym (append_assoc part r.before r.rest) in
    let here : Joined grammar p m (x ∷ xs) (part ++ r.before) = (part, r.before, refl, spelled, fits, r.spelled) in
    record {
      before = part ++ r.before;
      rest = r.rest;
      split = whole;
      spelled = here;
      only = λ head left e j. one_place p m (x ∷ xs) head left (part ++ r.before) r.rest (sym e ∙ whole) j here;
      info = r.info;
      told = r.told;
      stream = subst (λ q. Stream grammar (resumed q r.info) k (framed f ∷ more) r.rest) (next_profile p x) r.stream;
    }

pub nothing_told : Told None
nothing_told i e = absurd cc

pub frames_are_resumed : FramesAreResumed
frames_are_resumed profile m k front more f text u z s = resumed_at (opening profile) m k front more f text nothing_told u z s.spelled
