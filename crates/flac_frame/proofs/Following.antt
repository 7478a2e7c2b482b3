-- The headers that are accepted one after another are those that follow one another.
use Rattle.std.proofs.Common.{◌≡◌, ℕ, ◌+◌, ◌≤◌, Bool, true, false, not, cond, ◌&&◌, ◌||◌, nat_eq, nat_lt, List, [], ◌∷◌, ◌++◌, Option, Some, None, All, refl, sym, ap, subst, ◌∙◌, arith}
use Rattle.std.proofs.lemmas.Bool.Decides.{nat_tests}
use Rattle.std.proofs.lemmas.List.{append-nil}
use Rattle.std.proofs.lemmas.List.Elements.{All-nil, All-cons, All-head, All-tail}
use Rattle.std.proofs.lemmas.Bool.{not-false, not_from_true}
use Rattle.flac_bits.specs.State.{Mark, past, fresh}
use Rattle.flac_bits.specs.Meaning.{Spells, AllKept}
use Rattle.flac_bits.specs.Fence.{InRoom}
use Rattle.flac_bits.specs.Items.{Joined}
use Rattle.flac_info.specs.Info.{Info}
use Rattle.flac_header.specs.Header.{Header, header, allowed, channels_of}
use Rattle.flac_header.specs.declared.subset.Profile.{Profile}
use Rattle.flac_frame.specs.Frame.{Frame, frame, frame_body, stream_header, header_rules, left_by, after_frame, rate_in, depth_in, differs}
use Rattle.flac_frame.specs.Follows.{EachTwo, ButLast, NumberFollows, HasFormat, Follows, AreAccepted, AcceptedFollow, AreFrames, frames, FramesFollow}
use Rattle.flac_frame.specs.declared.before.Before.{Before}

-- ---- the rules of one header

three_same : (a b c d e f : ℕ) → not (nat_eq a b && nat_eq c d && nat_eq e f) ≡ false → (a ≡ b) × (c ≡ d) × (e ≡ f)
three_same a b c d e f h = (grind (arith, nat_tests), grind (arith, nat_tests), grind (arith, nat_tests))

same_three : (a b c d e f : ℕ) → a ≡ b → c ≡ d → e ≡ f → not (nat_eq a b && nat_eq c d && nat_eq e f) ≡ false
same_three a b c d e f p q r = grind (arith, nat_tests)

format_of : (profile : Profile) (info : Info) (h : Header) → differs profile info h ≡ false → HasFormat profile info h
format_of profile info h e =
    let s = three_same (rate_in profile info h) info.rate (channels_of h.channel_code) info.channels (depth_in profile info h) info.depth e in
    record { rate = s.0; channels = s.1; depth = s.2 }

of_format : (profile : Profile) (info : Info) (h : Header) → HasFormat profile info h → differs profile info h ≡ false
of_format profile info h f = same_three (rate_in profile info h) info.rate (channels_of h.channel_code) info.channels (depth_in profile info h) info.depth f.rate f.channels f.depth

same_strategy : (v w c : Bool) → (cond v (not w) w || c) ≡ false → v ≡ w
same_strategy true true c e = refl
same_strategy true false c e = absurd cc
same_strategy false true c e = absurd cc
same_strategy false false c e = refl

same_number : (c : Bool) (a b : ℕ) → (c || not (nat_eq a b)) ≡ false → a ≡ b
same_number c a b e = grind (arith, nat_tests)

no_break : (v w : Bool) (a b : ℕ) → v ≡ w → a ≡ b → (cond v (not w) w || not (nat_eq a b)) ≡ false
no_break true true a b e f = grind (arith, nat_tests)
no_break true false a b e f = absurd cc
no_break false true a b e f = absurd cc
no_break false false a b e f = grind (arith, nat_tests)

not_over : (a b : ℕ) → nat_lt a b ≡ false → b ≤ a
not_over a b e = grind (arith, nat_tests)

within : (a b : ℕ) → b ≤ a → nat_lt a b ≡ false
within a b e = grind (arith, nat_tests)

-- what the sizes keep
sizes : (v : Bool) (greatest least first size before : ℕ) → (nat_lt greatest size || nat_lt before least || (not v && (not (nat_eq before first) || nat_lt first size))) ≡ false
    → (size ≤ greatest) × (least ≤ before) × (v ≡ false → before ≡ first) × (v ≡ false → size ≤ first)
sizes true greatest least first size before e = (grind (arith, nat_tests), grind (arith, nat_tests), λ h. absurd cc, λ h. absurd cc)
sizes false greatest least first size before e = (grind (arith, nat_tests), grind (arith, nat_tests), λ h. grind (arith, nat_tests), λ h. grind (arith, nat_tests))

sized : (v : Bool) (greatest least first size before : ℕ) → size ≤ greatest → least ≤ before → (v ≡ false → before ≡ first) → (v ≡ false → size ≤ first)
    → (nat_lt greatest size || nat_lt before least || (not v && (not (nat_eq before first) || nat_lt first size))) ≡ false
sized true greatest least first size before a b c d = grind (arith, nat_tests)
sized false greatest least first size before a b c d =
    let same = c refl in
    let less = d refl in
    grind (arith, nat_tests)

-- ---- the headers after a first and a last one

-- what is kept after a header, where the first block had n samples
abbrev after : ℕ → Header → Before
after first last = record { first_size = first; variable = last.variable; next = last.number + cond last.variable last.size 1; size = last.size }

abbrev Allowed : Profile → Header → Type 0
Allowed profile h = allowed profile h ≡ true

abbrev Has : Bool → Header → Type 0
Has variable h = h.variable ≡ variable

abbrev AtMost : ℕ → Header → Type 0
AtMost size h = h.size ≤ size

-- the headers after the last so far
record Rest (profile : Profile) (info : Info) (first : ℕ) (last : Header) (hs : List Header) : Type 0 where
  allowed : All (λ h. allowed profile h ≡ true) hs
  format : All (HasFormat profile info) hs
  strategy : All (λ h. h.variable ≡ last.variable) hs
  numbers : EachTwo NumberFollows (last ∷ hs)
  greatest : All (λ h. h.size ≤ info.greatest_block) hs
  least : ButLast (λ h. info.least_block ≤ h.size) (last ∷ hs)
  same : last.variable ≡ false → ButLast (λ h. h.size ≡ first) (last ∷ hs)
  no_larger : last.variable ≡ false → All (λ h. h.size ≤ first) hs

rest_of : (profile : Profile) (info : Info) (first : ℕ) (last : Header) (hs : List Header) → AreAccepted profile info (Some (after first last)) hs → Rest profile info first last hs
rest_of profile info first last [] a = record {
  allowed = All-nil (Allowed profile);
  format = All-nil (HasFormat profile info);
  strategy = All-nil (Has last.variable);
  numbers = tt;
  greatest = All-nil (AtMost info.greatest_block);
  least = tt;
  same = λ _. tt;
  no_larger = λ _. All-nil (AtMost first);
}
rest_of profile info first last (h ∷ hs) (rules, a) =
    let strategy : h.variable ≡ last.variable = same_strategy h.variable last.variable _ rules.1.1.0 in
    let number : NumberFollows last h = same_number _ h.number _ rules.1.1.0 in
    let s = sizes h.variable info.greatest_block info.least_block first h.size last.size rules.1.1.1.0 in
    let r = rest_of profile info first h hs a in
    record {
      allowed = All-cons (Allowed profile) h hs (not-false (allowed profile h) rules.0) r.allowed;
      format = All-cons (HasFormat profile info) h hs (format_of profile info h rules.1.0) r.format;
      strategy = All-cons (Has last.variable) h hs strategy (λ k d lt. r.strategy k d lt ∙ strategy);
      numbers = (number, r.numbers);
      greatest = All-cons (AtMost info.greatest_block) h hs s.0 r.greatest;
      least = (s.1, r.least);
      same = λ fixed. (s.2 (strategy ∙ fixed), r.same (strategy ∙ fixed));
      no_larger = λ fixed. All-cons (AtMost first) h hs (s.3 (strategy ∙ fixed)) (r.no_larger (strategy ∙ fixed));
    }

accepted_rest : (profile : Profile) (info : Info) (first : ℕ) (last : Header) (hs : List Header) → Rest profile info first last hs → AreAccepted profile info (Some (after first last)) hs
accepted_rest profile info first last [] r = tt
accepted_rest profile info first last (h ∷ hs) r =
    let strategy : h.variable ≡ last.variable = All-head (Has last.variable) h hs r.strategy in
    let back : last.variable ≡ h.variable = sym strategy in
    let rest : Rest profile info first h hs = record {
      allowed = All-tail (Allowed profile) h hs r.allowed;
      format = All-tail (HasFormat profile info) h hs r.format;
      strategy = λ k d lt. All-tail (Has last.variable) h hs r.strategy k d lt ∙ back;
      numbers = r.numbers.1;
      greatest = All-tail (AtMost info.greatest_block) h hs r.greatest;
      least = r.least.1;
      same = λ fixed. (r.same (back ∙ fixed)).1;
      no_larger = λ fixed. All-tail (AtMost first) h hs (r.no_larger (back ∙ fixed));
    } in (
      (
        not_from_true (allowed profile h) (All-head (Allowed profile) h hs r.allowed),
        (
          of_format profile info h (All-head (HasFormat profile info) h hs r.format),
          (
            no_break h.variable last.variable h.number _ strategy r.numbers.0,
            (
              sized h.variable info.greatest_block info.least_block first h.size last.size (All-head (AtMost info.greatest_block) h hs r.greatest) r.least.0
                  (λ fixed. (r.same (back ∙ fixed)).0) (λ fixed. All-head (AtMost first) h hs (r.no_larger (back ∙ fixed))),
              tt,
            ),
          ),
        ),
      ),
      accepted_rest profile info first h hs rest,
    )

-- ---- all headers

follows_all : (profile : Profile) (info : Info) (hs : List Header) → AreAccepted profile info None hs → Follows profile info hs
follows_all profile info [] a = record {
  variable = false;
  size = 0;
  allowed = All-nil (Allowed profile);
  format = All-nil (HasFormat profile info);
  strategy = All-nil (Has false);
  numbers = tt;
  greatest = All-nil (AtMost info.greatest_block);
  least = tt;
  same = λ _. tt;
  no_larger = λ _. All-nil (AtMost 0);
}
follows_all profile info (f ∷ fs) (rules, a) =
    let r = rest_of profile info f.size f fs a in
    record {
      variable = f.variable;
      size = f.size;
      allowed = All-cons (Allowed profile) f fs (not-false (allowed profile f) rules.0) r.allowed;
      format = All-cons (HasFormat profile info) f fs (format_of profile info f rules.1.0) r.format;
      strategy = All-cons (Has f.variable) f fs refl r.strategy;
      numbers = r.numbers;
      greatest = All-cons (AtMost info.greatest_block) f fs (not_over info.greatest_block f.size rules.1.1.1.0) r.greatest;
      least = r.least;
      same = r.same;
      no_larger = λ fixed. All-cons (AtMost f.size) f fs (omega arith) (r.no_larger fixed);
    }

-- with fixed blocking the one size is that of the first
of_first : (size : ℕ) (f : Header) (fs : List Header) → ButLast (λ h. h.size ≡ size) (f ∷ fs) → All (AtMost size) (f ∷ fs) → ButLast (λ h. h.size ≡ f.size) (f ∷ fs) × All (AtMost f.size) fs
of_first size f [] same less = (tt, All-nil (AtMost f.size))
of_first size f (g ∷ gs) same less =
    let e : f.size ≡ size = same.0 in
    (subst (λ n. ButLast (λ h. h.size ≡ n) (f ∷ g ∷ gs)) (sym e) same, subst (λ n. All (AtMost n) (g ∷ gs)) (sym e) (All-tail (AtMost size) f (g ∷ gs) less))

all_accepted : (profile : Profile) (info : Info) (hs : List Header) → Follows profile info hs → AreAccepted profile info None hs
all_accepted profile info [] w = tt
all_accepted profile info (f ∷ fs) w =
    let strategy : f.variable ≡ w.variable = All-head (Has w.variable) f fs w.strategy in
    let back : w.variable ≡ f.variable = sym strategy in (
      (
        not_from_true (allowed profile f) (All-head (Allowed profile) f fs w.allowed),
        (of_format profile info f (All-head (HasFormat profile info) f fs w.format), (refl, (within info.greatest_block f.size (All-head (AtMost info.greatest_block) f fs w.greatest), tt))),
      ),
      accepted_rest profile info f.size f fs (record {
        allowed = All-tail (Allowed profile) f fs w.allowed;
        format = All-tail (HasFormat profile info) f fs w.format;
        strategy = λ k d lt. All-tail (Has w.variable) f fs w.strategy k d lt ∙ back;
        numbers = w.numbers;
        greatest = All-tail (AtMost info.greatest_block) f fs w.greatest;
        least = w.least;
        same = λ fixed. (of_first w.size f fs (w.same (back ∙ fixed)) (w.no_larger (back ∙ fixed))).0;
        no_larger = λ fixed. (of_first w.size f fs (w.same (back ∙ fixed)) (w.no_larger (back ∙ fixed))).1;
      }),
    )

pub accepted_follow : AcceptedFollow
accepted_follow profile info hs = (follows_all profile info hs, all_accepted profile info hs)

-- ---- frames

-- a header in a stream is a header that keeps the rules
pub judged_header : (profile : Profile) (info : Info) (before : Option Before) (m : Mark) (text : List Bool) (h : Header) → Spells (stream_header profile info before) m text h → Spells header m text h × AllKept (header_rules profile info before h)
unfolding stream_header
judged_header profile info before m text h (k, front, rest, split, s, (_, a, b, parted, kept, is)) =
    let none : rest ≡ [] = parted ∙ rw (kept.0, is.0) refl in
    let whole : text ≡ front = split ∙ rw none (append-nil front) in
    let same : k ≡ h = is.1 in
    (rw whole (subst (Spells header m front) same s), subst (λ x. AllKept (header_rules profile info before x)) same kept.1)

pub header_judged : (profile : Profile) (info : Info) (before : Option Before) (m : Mark) (text : List Bool) (h : Header) → Spells header m text h → AllKept (header_rules profile info before h) → Spells (stream_header profile info before) m text h
unfolding stream_header
header_judged profile info before m text h s kept = (h, text, [], sym (append-nil text), s, (tt, [], [], refl, (refl, kept), (refl, refl)))

-- what follows a header keeps what it says
body_keeps : (profile : Profile) (info : Info) (h : Header) (m : Mark) (text : List Bool) (f : Frame) → Spells (frame_body profile info h) m text f → (f.variable ≡ h.variable) × (f.number ≡ h.number) × (f.size ≡ h.size)
unfolding frame_body
body_keeps profile info h m text f (_, _, _, _, _, (_, _, _, _, _, (channels, _, _, _, _, is))) =
    let same = sym is.1 in (ap (λ (g : Frame). g.variable) same, ap (λ (g : Frame). g.number) same, ap (λ (g : Frame). g.size) same)

leaves : (profile : Profile) (info : Info) (before : Option Before) (h : Header) (m : Mark) (text : List Bool) (f : Frame) → Spells (frame_body profile info h) m text f → after_frame before f ≡ left_by before h.variable h.number h.size
leaves profile info before h m text f s = let k = body_keeps profile info h m text f s in rw (k.0, k.1, k.2) refl

-- with the headers that were accepted
abbrev Taken : Profile → Info → Option ℕ → Option Before → Mark → List Frame → List Bool → Type 0
Taken profile info room before m fs text = (hs : List Header) × AreFrames profile info room m hs fs text × AreAccepted profile info before hs

taken : (profile : Profile) (info : Info) (room : Option ℕ) (before : Option Before) (m : Mark) (fs : List Frame) (text : List Bool) → Joined (frames profile info room) before m fs text → Taken profile info room before m fs text
unfolding frame
taken profile info room before m [] text j = ([], j, tt)
taken profile info room before m (f ∷ fs) text (front, rest, split, (h, first, body, parted, s, b), fits, more) =
    let j = judged_header profile info before (fresh m) first h s in
    let left = leaves profile info before h _ body f b in
    let t = taken profile info room (Some (after_frame before f)) (past front (fresh m)) fs rest more in (
      h ∷ t.0,
      (first, body, rest, split ∙ ap (λ k. k ++ rest) parted, j.0, b, subst (λ k. InRoom room (fresh m) k) parted fits, subst (λ k. AreFrames profile info room (past k (fresh m)) t.0 fs rest) parted t.1),
      (j.1, subst (λ k. AreAccepted profile info (Some k) t.0) left t.2),
    )

joins : (profile : Profile) (info : Info) (room : Option ℕ) (before : Option Before) (m : Mark) (fs : List Frame) (text : List Bool) (hs : List Header) → AreFrames profile info room m hs fs text → AreAccepted profile info before hs → Joined (frames profile info room) before m fs text
unfolding frame
joins profile info room before m [] text [] a k = a
joins profile info room before m [] text (h ∷ hs) a k = absurd a
joins profile info room before m (f ∷ fs) text [] a k = absurd a
joins profile info room before m (f ∷ fs) text (h ∷ hs) (first, body, rest, split, s, b, fits, more) (kept, k) =
    let left = leaves profile info before h _ body f b in (
      first ++ body,
      rest,
      split,
      (h, first, body, refl, header_judged profile info before (fresh m) first h s kept, b),
      fits,
      joins profile info room (Some (after_frame before f)) (past (first ++ body) (fresh m)) fs rest hs more (subst (λ x. AreAccepted profile info (Some x) hs) (sym left) k),
    )

pub frames_follow : FramesFollow
frames_follow profile info room m fs text = (
  λ j. let t = taken profile info room None m fs text j in (t.0, t.1, follows_all profile info t.0 t.2),
  λ t. joins profile info room None m fs text t.0 t.1 (all_accepted profile info t.0 t.2),
)
