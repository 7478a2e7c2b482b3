-- The subframes of a frame, as spelled and as read.
use Rattle.std.proofs.Common.{◌≡◌, ℕ, zero, suc, ◌+◌, ◌≤◌, ℤ, Bool, List, [], ◌∷◌, ◌++◌, length, Option, Some, None, refl, sym, ap, ◌∙◌, append_assoc, arith}
use Rattle.std.proofs.lemmas.List.{append-nil}
use Rattle.flac_bits.specs.State.{Mark, past}
use Rattle.flac_bits.specs.Meaning.{Spells}
use Rattle.flac_subframe.specs.declared.format.limits.Limits.{Limits}
use Rattle.flac_subframe.specs.format.Subframe.{Form, samples_of, subframe_samples}
use Rattle.flac_subframe.specs.format.Spelling.{subframe_spelling, IsSubframe}
use Rattle.flac_subframe.proofs.lemmas.format.HeaderTie.{subframe_tie}
use Rattle.flac_frame.specs.Frame.{subframes, side_bit, with_channel}
use Rattle.flac_frame.specs.Spelling.{subframes_spelling, AreSubframes, HaveSamples}

-- ---- one subframe

module _ (depth block : ℕ) (limits : Limits) (deep : 1 ≤ depth) (some : 1 ≤ block) (few : limits.linear ≤ 32) (m : Mark) where
  one_subframe : (text : List Bool) (o : Option (List ℤ)) → Spells (subframe_samples depth block limits) m text o
      → (f : Form) × IsSubframe depth block limits f × (text ≡ subframe_spelling depth f) × (samples_of depth block f ≡ o)
  unfolding subframe_samples
  one_subframe text o (f, front, rest, split, s, is) =
      let t = (subframe_tie depth block limits deep some few m).only front f s in
      let none : front ++ rest ≡ front = rw is.0 (append-nil front) in
      (f, t.0, split ∙ none ∙ t.1, is.1)

  subframe_one : (f : Form) → IsSubframe depth block limits f → Spells (subframe_samples depth block limits) m (subframe_spelling depth f) (samples_of depth block f)
  unfolding subframe_samples
  subframe_one f v = (f, subframe_spelling depth f, [], sym (append-nil (subframe_spelling depth f)), (subframe_tie depth block limits deep some few m).each f v, (refl, refl))

-- ---- all of them

-- the samples of channels one after another, after those before
abbrev pub gather : (depth code block : ℕ) → Option (List (List ℤ)) → ℕ → List Form → Option (List (List ℤ))
gather depth code block got channel [] = got
gather depth code block got channel (f ∷ fs) = gather depth code block (with_channel got (samples_of (depth + side_bit code channel) block f)) (channel + 1) fs

module _ (depth code block : ℕ) (limits : Limits) (deep : 1 ≤ depth) (some : 1 ≤ block) (few : limits.linear ≤ 32) where
  pub subframes_only : (n : ℕ) (got : Option (List (List ℤ))) (channel : ℕ) (m : Mark) (text : List Bool) (out : Option (List (List ℤ))) → Spells (subframes depth code block limits got channel n) m text out
      → (fs : List Form) × (length fs ≡ n) × AreSubframes depth code block limits channel fs × (text ≡ subframes_spelling depth code channel fs) × (gather depth code block got channel fs ≡ out)
  unfolding subframes subframes_spelling
  subframes_only zero got channel m text out s = ([], refl, tt, s.0, s.1)
  subframes_only (suc n) got channel m text out (o, front, rest, split, s, more) =
      let a = one_subframe (depth + side_bit code channel) block limits (omega (arith, deep)) some few m front o s in
      let b = subframes_only n (with_channel got o) (channel + 1) (past front m) rest out more in (
        a.0 ∷ b.0,
        ap suc b.1,
        (a.1, b.2),
        split ∙ ap (λ k. k ++ rest) a.2 ∙ ap (λ k. subframe_spelling (depth + side_bit code channel) a.0 ++ k) b.3,
        ap (λ k. gather depth code block (with_channel got k) (channel + 1) b.0) a.3 ∙ b.4,
      )

  pub subframes_each : (fs : List Form) (got : Option (List (List ℤ))) (channel : ℕ) (m : Mark) → AreSubframes depth code block limits channel fs
      → Spells (subframes depth code block limits got channel (length fs)) m (subframes_spelling depth code channel fs) (gather depth code block got channel fs)
  unfolding subframes subframes_spelling
  subframes_each [] got channel m v = (refl, refl)
  subframes_each (f ∷ fs) got channel m v = (
    samples_of (depth + side_bit code channel) block f,
    subframe_spelling (depth + side_bit code channel) f,
    subframes_spelling depth code (channel + 1) fs,
    refl,
    subframe_one (depth + side_bit code channel) block limits (omega (arith, deep)) some few m f v.0,
    subframes_each fs (with_channel got (samples_of (depth + side_bit code channel) block f)) (channel + 1) (past (subframe_spelling (depth + side_bit code channel) f) m) v.1,
  )

-- ---- their samples

abbrev some_of : List (List ℤ) → Option (List (List ℤ))
some_of xs = Some xs

abbrev none_of : Option (List (List ℤ))
none_of = None

module _ (depth code block : ℕ) where
  gather_none : (channel : ℕ) (fs : List Form) → gather depth code block None channel fs ≡ None
  gather_none channel [] = refl
  gather_none channel (f ∷ fs) = gather_none (channel + 1) fs

  inner : (a b : List (List ℤ)) → some_of a ≡ some_of b → a ≡ b
  inner a b e = cc

  pub gathered : (fs : List Form) (before : List (List ℤ)) (channel : ℕ) (out : List (List ℤ)) → gather depth code block (Some before) channel fs ≡ Some out
      → (kept : List (List ℤ)) × HaveSamples depth code block channel fs kept × (out ≡ before ++ kept)
  gathered [] before channel out e = ([], tt, sym (inner before out e) ∙ sym (append-nil before))
  gathered (f ∷ fs) before channel out e = go (samples_of (depth + side_bit code channel) block f) refl e (λ b. gathered fs b (channel + 1) out)
    where
      go : (o : Option (List ℤ)) → samples_of (depth + side_bit code channel) block f ≡ o → gather depth code block (with_channel (Some before) o) (channel + 1) fs ≡ Some out
          → ((b : List (List ℤ)) → gather depth code block (Some b) (channel + 1) fs ≡ Some out → (kept : List (List ℤ)) × HaveSamples depth code block (channel + 1) fs kept × (out ≡ b ++ kept))
          → (kept : List (List ℤ)) × HaveSamples depth code block channel (f ∷ fs) kept × (out ≡ before ++ kept)
      go None is e others = let z : none_of ≡ some_of out = sym (gather_none (channel + 1) fs) ∙ e in absurd cc
      go (Some s) is e others =
          let k = others (before ++ s ∷ []) e in
          (s ∷ k.0, (is, k.1), k.2 ∙ append_assoc before (s ∷ []) k.0)

  pub have_gathered : (fs : List Form) (kept before : List (List ℤ)) (channel : ℕ) → HaveSamples depth code block channel fs kept → gather depth code block (Some before) channel fs ≡ Some (before ++ kept)
  have_gathered [] [] before channel h = ap some_of (sym (append-nil before))
  have_gathered [] (s ∷ ss) before channel h = absurd h
  have_gathered (f ∷ fs) [] before channel h = absurd h
  have_gathered (f ∷ fs) (s ∷ ss) before channel h =
      ap (λ o. gather depth code block (with_channel (Some before) o) (channel + 1) fs) h.0 ∙ have_gathered fs ss (before ++ s ∷ []) (channel + 1) h.1 ∙ ap some_of (append_assoc before (s ∷ []) ss)
