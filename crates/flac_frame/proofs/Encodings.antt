-- What is encoded is a frame of its block.
use Rattle.std.proofs.Common.{◌≡◌, ◌∙◌, refl, sym, ap, subst, ℕ, ◌≤◌, ◌%◌, arith, Bool, true, false, cond, ◌&&◌, nat_eq, nat_le, Option, Some, None}
use Rattle.std.proofs.lemmas.Bool.Decides.{nat_tests}
use Rattle.std.specs.Option.{option_or}
use Rattle.flac_info.specs.Info.{Info}
use Rattle.flac_header.specs.Header.{Header, depth_of, greatest_block, greatest_in, allowed}
use Rattle.flac_header.specs.Choice.{rate_choice, depth_choice, rate_choice_in, depth_choice_in, stated_rate, with_codes, chosen_header}
use Rattle.flac_header.specs.declared.subset.Profile.{Profile}
use Rattle.flac_header.specs.declared.subset.Profile.TheVariants.{Subset, Lax}
use Rattle.flac_frame.specs.Frame.{limits_at, rate_in, depth_in}
use Rattle.flac_frame.specs.Spelling.{AreSubframes, FrameSamples}
use Rattle.flac_frame.specs.Encoding.{EncodingsAreFrames}
use Rattle.flac_frame.proofs.Family.{opened}

-- ---- the codes that are chosen

-- a code is 1 at least
abbrev IsCode : Option ℕ → Type 0
IsCode o = (c : ℕ) → o ≡ Some c → 1 ≤ c

abbrev some_code : ℕ → Option ℕ
some_code c = Some c

inner : (a b : ℕ) → some_code a ≡ some_code b → a ≡ b
inner a b e = cc

no_code : IsCode None
no_code c e = absurd cc

code_or : (b : Bool) (n : ℕ) (o : Option ℕ) → 1 ≤ n → IsCode o → IsCode (cond b (Some n) o)
code_or true n o some rest c e = omega (arith, some, inner n c e)
code_or false n o some rest c e = rest c e

none_or : (b : Bool) (o : Option ℕ) → IsCode o → IsCode (cond b None o)
none_or true o rest c e = absurd cc
none_or false o rest c e = rest c e

rate_coded : (rate : ℕ) → IsCode (rate_choice rate)
unfolding rate_choice
rate_coded rate =
    let o14 : Option ℕ = cond (nat_eq (rate % 10) 0 && nat_le rate 655350) (Some 14) None in
    let e14 : IsCode o14 = code_or (nat_eq (rate % 10) 0 && nat_le rate 655350) 14 None (omega arith) no_code in
    let o13 : Option ℕ = cond (nat_le rate 65535) (Some 13) o14 in
    let e13 : IsCode o13 = code_or (nat_le rate 65535) 13 o14 (omega arith) e14 in
    let o12 : Option ℕ = cond (nat_eq (rate % 1000) 0 && nat_le rate 255000) (Some 12) o13 in
    let e12 : IsCode o12 = code_or (nat_eq (rate % 1000) 0 && nat_le rate 255000) 12 o13 (omega arith) e13 in
    let o11 : Option ℕ = cond (nat_eq rate 0) None o12 in
    let e11 : IsCode o11 = none_or (nat_eq rate 0) o12 e12 in
    let o10 : Option ℕ = cond (nat_eq rate 96000) (Some 11) o11 in
    let e10 : IsCode o10 = code_or (nat_eq rate 96000) 11 o11 (omega arith) e11 in
    let o9 : Option ℕ = cond (nat_eq rate 48000) (Some 10) o10 in
    let e9 : IsCode o9 = code_or (nat_eq rate 48000) 10 o10 (omega arith) e10 in
    let o8 : Option ℕ = cond (nat_eq rate 44100) (Some 9) o9 in
    let e8 : IsCode o8 = code_or (nat_eq rate 44100) 9 o9 (omega arith) e9 in
    let o7 : Option ℕ = cond (nat_eq rate 32000) (Some 8) o8 in
    let e7 : IsCode o7 = code_or (nat_eq rate 32000) 8 o8 (omega arith) e8 in
    let o6 : Option ℕ = cond (nat_eq rate 24000) (Some 7) o7 in
    let e6 : IsCode o6 = code_or (nat_eq rate 24000) 7 o7 (omega arith) e7 in
    let o5 : Option ℕ = cond (nat_eq rate 22050) (Some 6) o6 in
    let e5 : IsCode o5 = code_or (nat_eq rate 22050) 6 o6 (omega arith) e6 in
    let o4 : Option ℕ = cond (nat_eq rate 16000) (Some 5) o5 in
    let e4 : IsCode o4 = code_or (nat_eq rate 16000) 5 o5 (omega arith) e5 in
    let o3 : Option ℕ = cond (nat_eq rate 8000) (Some 4) o4 in
    let e3 : IsCode o3 = code_or (nat_eq rate 8000) 4 o4 (omega arith) e4 in
    let o2 : Option ℕ = cond (nat_eq rate 192000) (Some 3) o3 in
    let e2 : IsCode o2 = code_or (nat_eq rate 192000) 3 o3 (omega arith) e3 in
    let o1 : Option ℕ = cond (nat_eq rate 176400) (Some 2) o2 in
    let e1 : IsCode o1 = code_or (nat_eq rate 176400) 2 o2 (omega arith) e2 in
    let o0 : Option ℕ = cond (nat_eq rate 88200) (Some 1) o1 in
    let e0 : IsCode o0 = code_or (nat_eq rate 88200) 1 o1 (omega arith) e1 in
    e0

-- the code of a depth tells it
abbrev Tells : ℕ → Option ℕ → Type 0
Tells depth o = (c : ℕ) → o ≡ Some c → (1 ≤ c) × (depth_of c ≡ depth)

tells_none : (depth : ℕ) → Tells depth None
tells_none depth c e = absurd cc

tells_or : (depth d n : ℕ) (o : Option ℕ) → 1 ≤ n → depth_of n ≡ d → Tells depth o → Tells depth (cond (nat_eq depth d) (Some n) o)
tells_or depth d n o some is rest = go (nat_eq depth d) refl
  where
    go : (b : Bool) → nat_eq depth d ≡ b → Tells depth (cond b (Some n) o)
    go true t c e =
        let same : n ≡ c = inner n c e in
        let at : depth ≡ d = grind (arith, nat_tests) in
        (omega (arith, some, same), ap depth_of (sym same) ∙ is ∙ sym at)
    go false t c e = rest c e

depth_told : (depth : ℕ) → Tells depth (depth_choice depth)
unfolding depth_choice
depth_told depth =
    let o6 : Option ℕ = None in
    let e6 : Tells depth o6 = tells_none depth in
    let o5 : Option ℕ = cond (nat_eq depth 32) (Some 7) o6 in
    let e5 : Tells depth o5 = tells_or depth 32 7 o6 (omega arith) refl e6 in
    let o4 : Option ℕ = cond (nat_eq depth 24) (Some 6) o5 in
    let e4 : Tells depth o4 = tells_or depth 24 6 o5 (omega arith) refl e5 in
    let o3 : Option ℕ = cond (nat_eq depth 20) (Some 5) o4 in
    let e3 : Tells depth o3 = tells_or depth 20 5 o4 (omega arith) refl e4 in
    let o2 : Option ℕ = cond (nat_eq depth 16) (Some 4) o3 in
    let e2 : Tells depth o2 = tells_or depth 16 4 o3 (omega arith) refl e3 in
    let o1 : Option ℕ = cond (nat_eq depth 12) (Some 2) o2 in
    let e1 : Tells depth o1 = tells_or depth 12 2 o2 (omega arith) refl e2 in
    let o0 : Option ℕ = cond (nat_eq depth 8) (Some 1) o1 in
    let e0 : Tells depth o0 = tells_or depth 8 1 o1 (omega arith) refl e1 in
    e0

-- outside the subset, a code other than 0 tells it
abbrev Leaves : ℕ → Option ℕ → Type 0
Leaves depth o = (c : ℕ) → o ≡ Some c → nat_eq c 0 ≡ false → depth_of c ≡ depth

leaves_or : (depth : ℕ) (o : Option ℕ) → Tells depth o → Leaves depth (option_or o (Some 0))
leaves_or depth None tells c e some = let zero : 0 ≡ c = inner 0 c e in absurd (grind (arith, nat_tests))
leaves_or depth (Some d) tells c e some = (tells c e).1

leaves_test : (b : Bool) (depth : ℕ) (o : Option ℕ) → Leaves depth o → Leaves depth (cond b None o)
leaves_test true depth o rest c e some = absurd (no e)
  where
    no : {c : ℕ} → None ≡ Some c → ⊥
    no z = cc
leaves_test false depth o rest c e some = rest c e some

depth_left : (depth : ℕ) → Leaves depth (depth_choice_in Lax depth)
unfolding depth_choice_in
depth_left depth = leaves_test _ depth _ (leaves_or depth (depth_choice depth) (depth_told depth))

-- ---- the header

-- what a header has of what it was chosen for: its rate and depth are those of STREAMINFO, where these are what it was
-- chosen for
record Chosen (profile : Profile) (size rate code bits number : ℕ) (h : Header) : Type 0 where
  code_is : h.channel_code ≡ code
  fixed : h.variable ≡ false
  numbered : h.number ≡ number
  sized : h.size ≡ size
  rated : (info : Info) → info.rate ≡ rate → rate_in profile info h ≡ info.rate
  deep : (info : Info) → info.depth ≡ bits → depth_in profile info h ≡ info.depth
  may : (info : Info) → info.rate ≡ rate → size ≤ greatest_in profile info.rate → allowed profile h ≡ true

abbrev some_header : Header → Option Header
some_header h = Some h

same_header : (a b : Header) → some_header a ≡ some_header b → a ≡ b
same_header a b e = cc

abbrev header_of : (s r d size rate code number : ℕ) → Header
header_of s r d size rate code number = record { variable = false; size_code = s; size = size; rate_code = r; rate = stated_rate r rate; channel_code = code; depth_code = d; number = number }

is_allowed : (h : Header) → 1 ≤ h.rate_code → 1 ≤ h.depth_code → h.size ≤ greatest_block h.rate → allowed Subset h ≡ true
unfolding allowed
is_allowed h a b c =
    let p : nat_eq h.rate_code 0 ≡ false = grind (arith, nat_tests) in
    let q : nat_eq h.depth_code 0 ≡ false = grind (arith, nat_tests) in
    let r : nat_le h.size (greatest_block h.rate) ≡ true = small h.size (greatest_block h.rate) c in
    rw (p, q, r) refl
  where
    small : (n m : ℕ) → n ≤ m → nat_le n m ≡ true
    small n m le = grind (arith, nat_tests)

stated : (r rate : ℕ) → 1 ≤ r → stated_rate r rate ≡ rate
stated r rate some = let e : nat_eq r 0 ≡ false = grind (arith, nat_tests) in rw e refl

in_subset : (s r d size rate code bits number : ℕ) → 1 ≤ r → 1 ≤ d → depth_of d ≡ bits → Chosen Subset size rate code bits number (header_of s r d size rate code number)
in_subset s r d size rate code bits number some more told =
    let is : stated_rate r rate ≡ rate = stated r rate some in
    record {
      code_is = refl;
      fixed = refl;
      numbered = refl;
      sized = refl;
      rated = λ info e. is ∙ sym e;
      deep = λ info e. told ∙ sym e;
      may = λ info e few. is_allowed (header_of s r d size rate code number) some more (subst (λ k. size ≤ greatest_block k) (e ∙ sym is) few);
    }

-- the rate that is left to STREAMINFO, or stated
either_rate : (b : Bool) (n rate : ℕ) → n ≡ rate → cond b n (cond b 0 rate) ≡ n
either_rate true n rate e = refl
either_rate false n rate e = sym e

either_depth : (b : Bool) (n depth : ℕ) → (b ≡ false → depth ≡ n) → cond b n depth ≡ n
either_depth true n depth h = refl
either_depth false n depth h = h refl

in_lax : (s r d size rate code bits number : ℕ) → (nat_eq d 0 ≡ false → depth_of d ≡ bits) → Chosen Lax size rate code bits number (header_of s r d size rate code number)
unfolding allowed
in_lax s r d size rate code bits number told = record {
  code_is = refl;
  fixed = refl;
  numbered = refl;
  sized = refl;
  rated = λ info e. either_rate (nat_eq r 0) info.rate rate e;
  deep = λ info e. either_depth (nat_eq d 0) info.depth (depth_of d) (λ some. told some ∙ sym e);
  may = λ info e few. refl;
}

with_subset : (s r d : Option ℕ) (size rate code bits number : ℕ) (h : Header) → IsCode r → Tells bits d → with_codes s r d size rate code number ≡ Some h → Chosen Subset size rate code bits number h
with_subset None r d size rate code bits number h p q e = absurd cc
with_subset (Some s) None d size rate code bits number h p q e = absurd cc
with_subset (Some s) (Some r) None size rate code bits number h p q e = absurd cc
with_subset (Some s) (Some r) (Some d) size rate code bits number h p q e =
    let is : header_of s r d size rate code number ≡ h = same_header _ h e in
    subst (λ k. Chosen Subset size rate code bits number k) is (in_subset s r d size rate code bits number (p r refl) (q d refl).0 (q d refl).1)

with_lax : (s r d : Option ℕ) (size rate code bits number : ℕ) (h : Header) → Leaves bits d → with_codes s r d size rate code number ≡ Some h → Chosen Lax size rate code bits number h
with_lax None r d size rate code bits number h q e = absurd cc
with_lax (Some s) None d size rate code bits number h q e = absurd cc
with_lax (Some s) (Some r) None size rate code bits number h q e = absurd cc
with_lax (Some s) (Some r) (Some d) size rate code bits number h q e =
    let is : header_of s r d size rate code number ≡ h = same_header _ h e in
    subst (λ k. Chosen Lax size rate code bits number k) is (in_lax s r d size rate code bits number (q d refl))

rate_coded_in : (rate : ℕ) → IsCode (rate_choice_in Subset rate)
unfolding rate_choice_in
rate_coded_in rate = rate_coded rate

depth_told_in : (depth : ℕ) → Tells depth (depth_choice_in Subset depth)
unfolding depth_choice_in
depth_told_in depth = depth_told depth

chosen_is : (profile : Profile) (size rate code bits number : ℕ) (h : Header) → chosen_header profile size rate code bits number ≡ Some h → Chosen profile size rate code bits number h
chosen_is Subset size rate code bits number h e = with_subset _ _ _ size rate code bits number h (rate_coded_in rate) (depth_told_in bits) (opened Subset size rate code bits number h e)
chosen_is Lax size rate code bits number h e = with_lax _ _ _ size rate code bits number h (depth_left bits) (opened Lax size rate code bits number h e)

-- ---- the frame

pub encodings_are_frames : EncodingsAreFrames
encodings_are_frames sound size number block f info r d n e =
    let p : Profile = sound.profile in
    let c = chosen_is p size sound.rate e.code sound.bits number f.header e.header in
    let coded = subst (λ k. AreSubframes sound.bits k size (limits_at p sound.rate) 0 f.subframes) (sym c.code_is) e.subframes in
    let sized = subst (λ k. AreSubframes sound.bits f.header.channel_code k (limits_at p sound.rate) 0 f.subframes) (sym c.sized) coded in
    let limited = subst (λ k. AreSubframes sound.bits f.header.channel_code f.header.size (limits_at p k) 0 f.subframes) (sym r) sized in
    let parts = subst (λ k. AreSubframes k f.header.channel_code f.header.size (limits_at p info.rate) 0 f.subframes) (sym d) limited in
    record {
      fixed = c.fixed;
      numbered = c.numbered;
      sized = c.sized;
      format = record { rate = c.rated info r; channels = e.channels ∙ sym n; depth = c.deep info d };
      allowed = λ few. c.may info r few;
      frame = λ before kept. (
        record { header = e.valid; follows = kept; many = e.many ∙ sym n; subframes = parts },
        subst (λ k. FrameSamples k f block) (sym d) e.samples,
      );
    }
