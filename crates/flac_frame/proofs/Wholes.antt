-- A whole frame, as it is written.
use Rattle.std.proofs.Common.{◌≡◌, ◌∙◌, refl, sym, ap, subst, ℕ, suc, ◌+◌, ◌≤◌, ◌<◌, ◌^◌, arith, ℤ, Bool, true, false, cond, nat_eq, nat_lt, nat_le, List, [], ◌∷◌, ◌++◌, append_assoc, length, Option, Some, None, is_some, Result, All, flat_map}
use Rattle.std.proofs.lemmas.Bool.Decides.{nat_tests}
use Rattle.std.proofs.lemmas.List.Elements.{All-head, All-tail}
use Rattle.flac_subframe.specs.declared.format.linear.LinearPredictor.{LinearPredictor}
use Rattle.flac_subframe.specs.format.Handed.{AreWithin}
use Rattle.flac_bits.specs.State.{Mark, past, fresh}
use Rattle.flac_bits.specs.Signed.{FitsBits}
use Rattle.flac_bits.specs.Written.{Written, Adds, Fails, Writes}
use Rattle.flac_bits.specs.declared.why.Why.{Why}
use Rattle.flac_bits.proofs.Readings.{past-append}
use Rattle.flac_bits.proofs.Writing.{fails_first, fails_then, writes_then}
use Rattle.flac_bits.proofs.ItemSpellings.{fresh_unread, fresh_check16}
use Rattle.flac_header.specs.Header.{Header}
use Rattle.flac_header.specs.Choice.{size_choice, rate_choice_in, depth_choice_in, stated_rate, with_codes, chosen_header}
use Rattle.flac_header.specs.declared.subset.Profile.{Profile}
use Rattle.flac_header.specs.Spelling.{header_spelling, restarted}
use Rattle.flac_subframe.specs.declared.format.limits.Limits.{Limits}
use Rattle.flac_subframe.specs.format.Spelling.{subframe_spelling, IsSubframe}
use Rattle.flac_subframe.specs.format.Subframe.{Form, samples_of}
use Rattle.flac_subframe.proofs.lemmas.format.Samples.{all_fit_is}
use Rattle.flac_frame.specs.Audio.{Sound, IsSound}
use Rattle.flac_frame.specs.Frame.{side_bit, each_fits}
use Rattle.flac_frame.specs.Stereo.{joined}
use Rattle.flac_frame.specs.Spelling.{frame_spelling, subframes_spelling, filled, checked, AreSubframes, HaveSamples}
use Rattle.flac_frame.specs.PlaneLists.{Lists, same_list, later, AreAllWithin}
use Rattle.flac_frame.specs.inner.Encoding.{AreForms, AreFormsByPlane, end_spelling}
use Rattle.flac_frame.proofs.FrameTie.{end_is}
use Rattle.flac_frame.proofs.Encoded.{failed}

-- ---- header, subframes and end, one after another

-- the header of a frame, its subframes, zeros up to a whole byte, and the check
abbrev pub frame_parts : Header → List Bool → Mark → List Bool
frame_parts h parts m = header_spelling h ++ (parts ++ end_spelling (past parts (past (header_spelling h) (fresh m))))

-- what stands after the header was written, and then the end
pub ends : {X : Type 0} (h : Header) (parts : List Bool) (old mid end new : Written) (result : Result X Why) → Adds (header_spelling h) (restarted old) mid → Adds parts mid end → Writes (end_spelling end.mark) end new result
    → Writes (frame_parts h parts old.mark) (restarted old) new result
ends h parts old mid end new result adds more last =
    let is : end.mark ≡ past parts (past (header_spelling h) (fresh old.mark)) = more.mark ∙ ap (past parts) adds.mark in
    writes_then _ new result adds (writes_then _ new result more (subst (λ m. Writes (end_spelling m) end new result) is last))

-- the header was not written
pub header_stops : (h : Header) (parts : List Bool) (old new : Written) (e : Why) → Fails ((restarted old).bits ++ header_spelling h) (restarted old) new e → Writes (frame_parts h parts old.mark) (restarted old) new (failed e)
header_stops h parts old new e fails = fails_first (header_spelling h) (parts ++ end_spelling (past parts (past (header_spelling h) (fresh old.mark)))) fails

-- what stands after it was not written
pub parts_stop : (h : Header) (parts : List Bool) (old mid new : Written) (e : Why) → Adds (header_spelling h) (restarted old) mid → Fails (mid.bits ++ parts) mid new e → Writes (frame_parts h parts old.mark) (restarted old) new (failed e)
parts_stop h parts old mid new e adds fails = fails_then _ adds (fails_first parts _ fails)

-- it is the spelling of a frame
pub text_is : (depth : ℕ) (h : Header) (parts : List Bool) (fs : List Form) (m : Mark) → m.unread ≡ 0 → parts ≡ subframes_spelling depth h.channel_code 0 fs → frame_parts h parts m ≡ frame_spelling depth (record { header = h; subframes = fs })
unfolding frame_spelling
text_is depth h parts fs old whole is =
    let body : List Bool = header_spelling h ++ parts in
    let m : Mark = fresh old in
    let at : past parts (past (header_spelling h) m) ≡ past body m = sym (past-append (header_spelling h) parts m) in
    sym (append_assoc (header_spelling h) parts _) ∙ ap (λ k. body ++ end_spelling k) at ∙ end_is body m (fresh_unread old whole) (fresh_check16 old whole) ∙ ap (λ t. checked (filled (header_spelling h ++ t))) is

-- ---- the form that they spell

module _ (depth code size : ℕ) (independent : code ≤ 7) where
  no_side : (channel : ℕ) → depth + side_bit code channel ≡ depth
  unfolding side_bit
  no_side channel =
      let a : nat_eq code 9 ≡ false = grind (arith, nat_tests) in
      let b : nat_lt 7 code ≡ false = grind (arith, nat_tests) in
      rw (a, b) (omega arith)

  pub texts_are : (channel : ℕ) (fs : List Form) → subframes_spelling depth code channel fs ≡ flat_map (subframe_spelling depth) fs
  unfolding subframes_spelling
  texts_are channel [] = refl
  texts_are channel (f ∷ fs) = ap (λ n. subframe_spelling n f ++ subframes_spelling depth code (channel + 1) fs) (no_side channel) ∙ ap (λ t. subframe_spelling depth f ++ t) (texts_are (channel + 1) fs)

  pub subframes_by_plane : (most : ℕ) (lists : Lists) (limits : Limits) → most ≤ limits.partition → AreAllWithin limits.linear lists → (channel : ℕ) (fs : List Form) (block : List (List ℤ)) → AreFormsByPlane most lists depth size fs block
      → AreSubframes depth code size limits channel fs
  subframes_by_plane most lists limits few within channel [] [] h = tt
  subframes_by_plane most lists limits few within channel [] (s ∷ ss) h = absurd h
  subframes_by_plane most lists limits few within channel (f ∷ fs) [] h = absurd h
  subframes_by_plane most lists limits few within channel (f ∷ fs) (s ∷ ss) h =
      (subst (λ n. IsSubframe n size limits f) (sym (no_side channel)) (h.0 limits few (within 0)), subframes_by_plane most (later lists) limits few (λ plane. within (suc plane)) (channel + 1) fs ss h.2)

  pub samples_by_plane : (most : ℕ) (lists : Lists) (channel : ℕ) (fs : List Form) (block : List (List ℤ)) → AreFormsByPlane most lists depth size fs block → HaveSamples depth code size channel fs block
  samples_by_plane most lists channel [] [] h = tt
  samples_by_plane most lists channel [] (s ∷ ss) h = absurd h
  samples_by_plane most lists channel (f ∷ fs) [] h = absurd h
  samples_by_plane most lists channel (f ∷ fs) (s ∷ ss) h = (subst (λ n. samples_of n size f ≡ Some s) (sym (no_side channel)) h.1, samples_by_plane most (later lists) (channel + 1) fs ss h.2)

  pub many_by_plane : (most : ℕ) (lists : Lists) (fs : List Form) (block : List (List ℤ)) → AreFormsByPlane most lists depth size fs block → length fs ≡ length block
  many_by_plane most lists [] [] h = refl
  many_by_plane most lists [] (s ∷ ss) h = absurd h
  many_by_plane most lists (f ∷ fs) [] h = absurd h
  many_by_plane most lists (f ∷ fs) (s ∷ ss) h = ap suc (many_by_plane most (later lists) fs ss h.2)

  -- with one list for all
  pub subframes_are : (most : ℕ) (ps : List LinearPredictor) (limits : Limits) → most ≤ limits.partition → AreWithin limits.linear ps → (channel : ℕ) (fs : List Form) (block : List (List ℤ)) → AreForms most ps depth size fs block → AreSubframes depth code size limits channel fs
  subframes_are most ps limits few within channel fs block h = subframes_by_plane most (same_list ps) limits few (λ plane. within) channel fs block h

  pub samples_are : (most : ℕ) (ps : List LinearPredictor) (channel : ℕ) (fs : List Form) (block : List (List ℤ)) → AreForms most ps depth size fs block → HaveSamples depth code size channel fs block
  samples_are most ps channel fs block h = samples_by_plane most (same_list ps) channel fs block h

  pub as_many : (most : ℕ) (ps : List LinearPredictor) (fs : List Form) (block : List (List ℤ)) → AreForms most ps depth size fs block → length fs ≡ length block
  as_many most ps fs block h = many_by_plane most (same_list ps) fs block h

  pub not_joined : (block : List (List ℤ)) → joined code block ≡ block
  unfolding joined
  not_joined block = let a : nat_lt code 8 ≡ true = grind (arith, nat_tests) in rw a refl

  pub all_fit_in : (block : List (List ℤ)) → All (λ s. All (FitsBits depth) s) block → each_fits depth block ≡ true
  all_fit_in [] h = refl
  all_fit_in (s ∷ ss) h = rw (all_fit_is depth s (All-head (λ s. All (FitsBits depth) s) s ss h)) (all_fit_in ss (All-tail (λ s. All (FitsBits depth) s) s ss h))

-- ---- the header

abbrev some_of : Header → Option Header
some_of h = Some h

is_there : (b : Bool) (x : ℕ) (o : Option ℕ) → is_some o ≡ true → is_some (cond b (Some x) o) ≡ true
is_there true x o h = refl
is_there false x o h = h

abbrev last_code : ℕ → Option ℕ
last_code size = cond (nat_eq size 0) None (cond (nat_le size 256) (Some 6) (cond (nat_le size 65535) (Some 7) None))

abbrev code_7 : Option ℕ
code_7 = Some 7

last_codes : (size : ℕ) → 1 ≤ size → size ≤ 65535 → is_some (last_code size) ≡ true
last_codes size some few =
    let a : nat_eq size 0 ≡ false = grind (arith, nat_tests) in
    let b : nat_le size 65535 ≡ true = grind (arith, nat_tests) in
    rw (a, b) (is_there (nat_le size 256) 6 code_7 refl)

size_has_code : (size : ℕ) → 1 ≤ size → size ≤ 65535 → is_some (size_choice size) ≡ true
unfolding size_choice
size_has_code size some few =
    let e13 : is_some (last_code size) ≡ true = last_codes size some few in
    let o13 : Option ℕ = last_code size in
    let o12 : Option ℕ = cond (nat_eq size 32768) (Some 15) o13 in
    let e12 : is_some o12 ≡ true = is_there (nat_eq size 32768) 15 o13 e13 in
    let o11 : Option ℕ = cond (nat_eq size 16384) (Some 14) o12 in
    let e11 : is_some o11 ≡ true = is_there (nat_eq size 16384) 14 o12 e12 in
    let o10 : Option ℕ = cond (nat_eq size 8192) (Some 13) o11 in
    let e10 : is_some o10 ≡ true = is_there (nat_eq size 8192) 13 o11 e11 in
    let o9 : Option ℕ = cond (nat_eq size 4096) (Some 12) o10 in
    let e9 : is_some o9 ≡ true = is_there (nat_eq size 4096) 12 o10 e10 in
    let o8 : Option ℕ = cond (nat_eq size 2048) (Some 11) o9 in
    let e8 : is_some o8 ≡ true = is_there (nat_eq size 2048) 11 o9 e9 in
    let o7 : Option ℕ = cond (nat_eq size 1024) (Some 10) o8 in
    let e7 : is_some o7 ≡ true = is_there (nat_eq size 1024) 10 o8 e8 in
    let o6 : Option ℕ = cond (nat_eq size 512) (Some 9) o7 in
    let e6 : is_some o6 ≡ true = is_there (nat_eq size 512) 9 o7 e7 in
    let o5 : Option ℕ = cond (nat_eq size 256) (Some 8) o6 in
    let e5 : is_some o5 ≡ true = is_there (nat_eq size 256) 8 o6 e6 in
    let o4 : Option ℕ = cond (nat_eq size 4608) (Some 5) o5 in
    let e4 : is_some o4 ≡ true = is_there (nat_eq size 4608) 5 o5 e5 in
    let o3 : Option ℕ = cond (nat_eq size 2304) (Some 4) o4 in
    let e3 : is_some o3 ≡ true = is_there (nat_eq size 2304) 4 o4 e4 in
    let o2 : Option ℕ = cond (nat_eq size 1152) (Some 3) o3 in
    let e2 : is_some o2 ≡ true = is_there (nat_eq size 1152) 3 o3 e3 in
    let o1 : Option ℕ = cond (nat_eq size 576) (Some 2) o2 in
    let e1 : is_some o1 ≡ true = is_there (nat_eq size 576) 2 o2 e2 in
    let o0 : Option ℕ = cond (nat_eq size 192) (Some 1) o1 in
    let e0 : is_some o0 ≡ true = is_there (nat_eq size 192) 1 o1 e1 in
    e0

codes_there : (s r d : Option ℕ) (size rate code number : ℕ) → is_some s ≡ true → is_some r ≡ true → is_some d ≡ true → with_codes s r d size rate code number ≡ None → ⊥
codes_there (Some s) (Some r) (Some d) size rate code number a b c e = absurd cc
codes_there None r d size rate code number a b c e = absurd cc
codes_there (Some s) None d size rate code number a b c e = absurd cc
codes_there (Some s) (Some r) None size rate code number a b c e = absurd cc

pub codes_are : (s r d : Option ℕ) (size rate code number : ℕ) (h : Header) → with_codes s r d size rate code number ≡ Some h → (h.channel_code ≡ code) × (h.size ≡ size)
codes_are (Some s) (Some r) (Some d) size rate code number h e =
    let form : Header = record { variable = false; size_code = s; size = size; rate_code = r; rate = stated_rate r rate; channel_code = code; depth_code = d; number = number } in
    let same : form ≡ h = inner form h e in (sym (ap (λ (k : Header). k.channel_code) same), sym (ap (λ (k : Header). k.size) same))
  where
    inner : (a b : Header) → some_of a ≡ some_of b → a ≡ b
    inner a b e = cc
codes_are None r d size rate code number h e = absurd cc
codes_are (Some s) None d size rate code number h e = absurd cc
codes_are (Some s) (Some r) None size rate code number h e = absurd cc

pub chosen_as : (p : Profile) (size rate code bits number : ℕ) → code ≤ 10 → number < 2 ^ 31 → chosen_header p size rate code bits number ≡ with_codes (size_choice size) (rate_choice_in p rate) (depth_choice_in p bits) size rate code number
unfolding chosen_header
chosen_as p size rate code bits number few small =
    let a : nat_lt 10 code ≡ false = grind (arith, nat_tests) in
    let b : nat_le (2 ^ 31) number ≡ false = grind (arith, nat_tests) in
    rw (a, b) refl

pub chosen_there : (p : Profile) (size rate code bits number : ℕ) → 1 ≤ size → size ≤ 65535 → is_some (rate_choice_in p rate) ≡ true → is_some (depth_choice_in p bits) ≡ true → code ≤ 10 → number < 2 ^ 31 → chosen_header p size rate code bits number ≡ None → ⊥
chosen_there p size rate code bits number some less r d few small e =
    codes_there (size_choice size) (rate_choice_in p rate) (depth_choice_in p bits) size rate code number (size_has_code size some less) r d (sym (chosen_as p size rate code bits number few small) ∙ e)

-- the header of samples
pub header_at : (sound : Sound) (profile : Profile) (size rate code bits number : ℕ) (o : Option Header) (h : Header) → profile ≡ sound.profile → rate ≡ sound.rate → bits ≡ sound.bits → o ≡ chosen_header profile size rate code bits number → o ≡ Some h
    → chosen_header sound.profile size sound.rate code sound.bits number ≡ Some h
header_at sound profile size rate code bits number o h p r b is there =
    ap (λ k. chosen_header k size sound.rate code sound.bits number) (sym p) ∙ ap (λ k. chosen_header profile size k code sound.bits number) (sym r) ∙ ap (λ k. chosen_header profile size rate code k number) (sym b) ∙ sym is ∙ there

pub header_never : (sound : Sound) → IsSound sound → (profile : Profile) (size rate code bits number : ℕ) → profile ≡ sound.profile → rate ≡ sound.rate → bits ≡ sound.bits → code ≤ 10 → 1 ≤ size → size ≤ 65535 → number < 2 ^ 31
    → chosen_header profile size rate code bits number ≡ None → ⊥
header_never sound good profile size rate code bits number p r b coded some few small none =
    chosen_there profile size rate code bits number some few (ap (λ z. is_some (rate_choice_in z rate)) p ∙ ap (λ z. is_some (rate_choice_in sound.profile z)) r ∙ good.rate)
    (ap (λ z. is_some (depth_choice_in z bits)) p ∙ ap (λ z. is_some (depth_choice_in sound.profile z)) b ∙ good.bits) coded small none
