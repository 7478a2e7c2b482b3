-- The frames of the family, and the least of them.
use Rattle.std.proofs.Common.{◌≡◌, ◌∙◌, refl, sym, ap, subst, ℕ, ◌+◌, ◌-◌, ◌%◌, ◌≤◌, ◌<◌, ◌^◌, arith, ℤ, Bool, true, false, cond, ◌||◌, nat_lt, nat_le, List, [], ◌∷◌, ◌++◌, length, length-append, Option, Some, None, flat_map}
use Rattle.std.proofs.Math.Path.{fun_ext}
use Rattle.std.proofs.lemmas.Bool.Decides.{nat_tests}
use Rattle.flac_header.specs.Header.{Header}
use Rattle.flac_header.specs.Choice.{size_choice, rate_choice_in, depth_choice_in, stated_rate, with_codes, chosen_header}
use Rattle.flac_header.specs.declared.subset.Profile.{Profile}
use Rattle.flac_header.specs.Spelling.{header_spelling}
use Rattle.flac_subframe.specs.format.Spelling.{subframe_spelling}
use Rattle.flac_subframe.specs.format.Subframe.{Form}
use Rattle.flac_frame.specs.Audio.{Sound}
use Rattle.flac_frame.specs.Encoding.{partition_limit, IsEncoding, EachStandsByPlane, IsOfPlanes, IsLeastByPlane, subframes_cost}
use Rattle.flac_frame.specs.PlaneLists.{Lists, later, lists_kept, plane_of}
use Rattle.flac_frame.specs.inner.Encoding.{AreLeast}
use Rattle.flac_frame.specs.Spelling.{FrameForm, frame_spelling, subframes_spelling}
use Rattle.flac_frame.specs.Stereo.{kept_as}
use Rattle.flac_header.proofs.Lengths.{header_long}
use Rattle.flac_frame.proofs.Short.{whole_long}
use Rattle.flac_frame.proofs.Wholes.{texts_are, codes_are}

-- ---- headers that differ by their channel code alone

some_of : Header → Option Header
some_of h = Some h

pub opened : (p : Profile) (size rate code bits number : ℕ) (h : Header) → chosen_header p size rate code bits number ≡ Some h → with_codes (size_choice size) (rate_choice_in p rate) (depth_choice_in p bits) size rate code number ≡ Some h
unfolding chosen_header
opened p size rate code bits number h e = go (nat_lt 10 code || nat_le (2 ^ 31) number) e
  where
    go : (b : Bool) → cond b None (with_codes (size_choice size) (rate_choice_in p rate) (depth_choice_in p bits) size rate code number) ≡ Some h → with_codes (size_choice size) (rate_choice_in p rate) (depth_choice_in p bits) size rate code number ≡ Some h
    go true e = absurd cc
    go false e = e

pub coded_as : (p : Profile) (size rate code bits number : ℕ) (h : Header) → chosen_header p size rate code bits number ≡ Some h → (h.channel_code ≡ code) × (h.size ≡ size)
coded_as p size rate code bits number h e = codes_are (size_choice size) (rate_choice_in p rate) (depth_choice_in p bits) size rate code number h (opened p size rate code bits number h e)

inner : (a b : Header) → Some a ≡ Some b → a ≡ b
inner a b e = cc

same_long : (s r d : Option ℕ) (size rate a b number : ℕ) (h k : Header) → with_codes s r d size rate a number ≡ Some h → with_codes s r d size rate b number ≡ Some k → length (header_spelling h) ≡ length (header_spelling k)
same_long (Some s) (Some r) (Some d) size rate a b number h k e f =
    let x : Header = record { variable = false; size_code = s; size = size; rate_code = r; rate = stated_rate r rate; channel_code = a; depth_code = d; number = number } in
    let y : Header = record { variable = false; size_code = s; size = size; rate_code = r; rate = stated_rate r rate; channel_code = b; depth_code = d; number = number } in
    ap (λ z. length (header_spelling z)) (sym (inner x h e)) ∙ header_long x ∙ sym (header_long y) ∙ ap (λ z. length (header_spelling z)) (inner y k f)
same_long None r d size rate a b number h k e f = absurd cc
same_long (Some s) None d size rate a b number h k e f = absurd cc
same_long (Some s) (Some r) None size rate a b number h k e f = absurd cc

-- ---- frames of fewer bits

filled_less : (a b : ℕ) → a ≤ b → a + (8 - a % 8) % 8 ≤ b + (8 - b % 8) % 8
filled_less a b h = omega (arith, h)

frame_less : (depth : ℕ) (f g : FrameForm) → length (header_spelling f.header) ≡ length (header_spelling g.header) → subframes_cost depth f ≤ subframes_cost depth g → length (frame_spelling depth f) ≤ length (frame_spelling depth g)
unfolding frame_spelling
frame_less depth f g e le =
    let p = subframes_spelling depth f.header.channel_code 0 f.subframes in
    let q = subframes_spelling depth g.header.channel_code 0 g.subframes in
    let a : ℕ = length (header_spelling f.header ++ p) in
    let b : ℕ = length (header_spelling g.header ++ q) in
    let few : a ≤ b = omega (arith, length-append (header_spelling f.header) p, length-append (header_spelling g.header) q, e, le) in
    omega (arith, whole_long (header_spelling f.header ++ p), whole_long (header_spelling g.header ++ q), filled_less a b few)

module _ (lists : Lists) (sound : Sound) (size number : ℕ) (block : List (List ℤ)) where
  abbrev pub IsBelow : FrameForm → Type 0
  IsBelow f = (g : FrameForm) → IsOfPlanes lists sound size number block g
      → (subframes_cost sound.bits f ≤ subframes_cost sound.bits g) × (g.header.channel_code < f.header.channel_code → subframes_cost sound.bits f < subframes_cost sound.bits g)

  pub least_frame : (f : FrameForm) → IsOfPlanes lists sound size number block f → IsBelow f → IsLeastByPlane lists sound size number block f
  least_frame f m below = record {
    least = record {
      member = m;
      least = λ g n. frame_less sound.bits f g
          (same_long (size_choice size) (rate_choice_in sound.profile sound.rate) (depth_choice_in sound.profile sound.bits) size sound.rate m.encoding.code n.encoding.code number f.header g.header
          (opened sound.profile size sound.rate m.encoding.code sound.bits number f.header m.encoding.header) (opened sound.profile size sound.rate n.encoding.code sound.bits number g.header n.encoding.header))
          (below g n).0;
    };
    fewest = λ g n. (below g n).0;
    first = λ g n lower. (below g n).1 lower;
  }

-- ---- channels each by itself

pub kept_same : (code : ℕ) (block : List (List ℤ)) → code ≤ 7 → kept_as code block ≡ block
unfolding kept_as
kept_same code block few = let a : nat_lt code 8 ≡ true = grind (arith, nat_tests) in rw a refl

-- each is its own plane
own_plane : (code channel : ℕ) → code ≤ 7 → plane_of code channel ≡ channel
own_plane code channel few = let a : nat_lt code 8 ≡ true = grind (arith, nat_tests) in rw a refl

pub lists_same : (code : ℕ) (lists : Lists) → code ≤ 7 → lists_kept code lists ≡ lists
lists_same code lists few = fun_ext (λ channel. ap lists (own_plane code channel few))

module _ (code : ℕ) (few : code ≤ 7) (most : ℕ) (lists : Lists) (fs : List Form) (block : List (List ℤ)) where
  stands_kept : EachStandsByPlane most lists fs block → EachStandsByPlane most (lists_kept code lists) fs (kept_as code block)
  stands_kept h = subst (λ ls. EachStandsByPlane most ls fs (kept_as code block)) (sym (lists_same code lists few)) (subst (EachStandsByPlane most lists fs) (sym (kept_same code block few)) h)

  kept_stands : EachStandsByPlane most (lists_kept code lists) fs (kept_as code block) → EachStandsByPlane most lists fs block
  kept_stands h = subst (EachStandsByPlane most lists fs) (kept_same code block few) (subst (λ ls. EachStandsByPlane most ls fs (kept_as code block)) (lists_same code lists few) h)

all_less : (most : ℕ) (lists : Lists) (depth : ℕ) (fs gs : List Form) (block : List (List ℤ)) → AreLeast most lists depth fs block → EachStandsByPlane most lists gs block → length (flat_map (subframe_spelling depth) fs) ≤ length (flat_map (subframe_spelling depth) gs)
all_less most lists depth [] [] [] a b = omega arith
all_less most lists depth [] (g ∷ gs) [] a b = absurd b
all_less most lists depth (f ∷ fs) gs [] a b = absurd a
all_less most lists depth [] gs (s ∷ ss) a b = absurd a
all_less most lists depth (f ∷ fs) [] (s ∷ ss) a b = absurd b
all_less most lists depth (f ∷ fs) (g ∷ gs) (s ∷ ss) a b =
    let one : length (subframe_spelling depth f) ≤ length (subframe_spelling depth g) = a.0.least g b.0 in
    let rest = all_less most (later lists) depth fs gs ss a.1 b.1 in
    omega (arith, length-append (subframe_spelling depth f) (flat_map (subframe_spelling depth) fs), length-append (subframe_spelling depth g) (flat_map (subframe_spelling depth) gs), one, rest)

stands_of : (most : ℕ) (lists : Lists) (depth : ℕ) (fs : List Form) (block : List (List ℤ)) → AreLeast most lists depth fs block → EachStandsByPlane most lists fs block
stands_of most lists depth [] [] a = tt
stands_of most lists depth [] (s ∷ ss) a = absurd a
stands_of most lists depth (f ∷ fs) [] a = absurd a
stands_of most lists depth (f ∷ fs) (s ∷ ss) a = (a.0.member, stands_of most (later lists) depth fs ss a.1)

pub code_once : (b : Bool) (c n : ℕ) → cond b (c + 1) 2 ≡ n → (n ≡ 2 → ⊥) → c + 1 ≡ n
code_once true c n e other = e
code_once false c n e other = absurd (other (sym e))

pub independent_least : (lists : Lists) (sound : Sound) (size number : ℕ) (block : List (List ℤ)) (f : FrameForm) → (length block ≡ 2 → ⊥) → length block ≤ 8 → IsEncoding sound size number block f → AreLeast (partition_limit sound) lists sound.bits f.subframes block
    → IsLeastByPlane lists sound size number block f
independent_least lists sound size number block f other few encoding least =
    let depth : ℕ = sound.bits in
    let code = code_once (nat_lt f.header.channel_code 8) f.header.channel_code (length block) encoding.channels other in
    let low : f.header.channel_code ≤ 7 = omega (arith, code, few) in
    let cost : subframes_cost depth f ≡ length (flat_map (subframe_spelling depth) f.subframes) = ap (λ (t : List Bool). length t) (texts_are depth f.header.channel_code size low 0 f.subframes) in
    least_frame lists sound size number block f (record { encoding = encoding; stand = stands_kept f.header.channel_code low (partition_limit sound) lists f.subframes block (stands_of (partition_limit sound) lists depth f.subframes block least) })
    (λ g m.
    let code' = code_once (nat_lt g.header.channel_code 8) g.header.channel_code (length block) m.encoding.channels other in
    let low' : g.header.channel_code ≤ 7 = omega (arith, code', few) in
    let cost' : subframes_cost depth g ≡ length (flat_map (subframe_spelling depth) g.subframes) = ap (λ (t : List Bool). length t) (texts_are depth g.header.channel_code size low' 0 g.subframes) in
    let less = all_less (partition_limit sound) lists depth f.subframes g.subframes block least (kept_stands g.header.channel_code low' (partition_limit sound) lists g.subframes block m.stand) in
    (omega (arith, cost, cost', less), λ lower. absurd (omega (arith, lower, code, code'))))
