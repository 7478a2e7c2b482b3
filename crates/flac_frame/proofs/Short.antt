-- How long a frame of least subframes is at most.
use Rattle.std.proofs.Common.{◌≡◌, ◌∙◌, refl, sym, ap, subst, ℕ, suc, ◌+◌, ◌-◌, ◌*◌, ◌%◌, ◌≤◌, ◌<◌, arith, ℤ, Bool, List, [], ◌∷◌, ◌++◌, length, length-append, map, All, flat_map}
use Rattle.std.proofs.lemmas.List.{length-map}
use Rattle.std.proofs.lemmas.List.Elements.{All-head, All-tail}
use Rattle.std.proofs.lemmas.Nat.{mul-le}
use Rattle.std.proofs.Math.Nat.{mul-le-mul_right}
use Rattle.flac_subframe.specs.declared.format.linear.LinearPredictor.{LinearPredictor}
use Rattle.flac_bits.specs.Bits.{unsigned}
use Rattle.flac_bits.specs.Check.{remainder}
use Rattle.flac_bits.specs.Signed.{FitsBits}
use Rattle.flac_bits.proofs.Words.{length-unsigned}
use Rattle.flac_header.specs.Spelling.{header_spelling}
use Rattle.flac_header.proofs.Lengths.{header_few}
use Rattle.flac_subframe.specs.declared.format.limits.Limits.{Limits}
use Rattle.flac_subframe.specs.format.Bodies.{verbatim}
use Rattle.flac_subframe.specs.format.Chosen.{offered}
use Rattle.flac_subframe.specs.format.Family.{Stands}
use Rattle.flac_subframe.specs.format.Spelling.{content_spelling, subframe_spelling}
use Rattle.flac_subframe.specs.format.Subframe.{Form, Verbatim}
use Rattle.flac_subframe.specs.format.Wasted.{times_power}
use Rattle.flac_subframe.proofs.lemmas.search.Family.{family_with_stand}
use Rattle.flac_subframe.proofs.lemmas.format.Made.{all_within}
use Rattle.flac_subframe.proofs.lemmas.search.Lengths.{length-samples}
use Rattle.flac_subframe.proofs.lemmas.search.WholeLeast.{length-subframe}
use Rattle.flac_frame.specs.Encoding.{IsShort}
use Rattle.flac_frame.specs.inner.Encoding.{IsLeastFor, AreLeast}
use Rattle.flac_frame.specs.PlaneLists.{Lists, later}
use Rattle.flac_frame.specs.Spelling.{FrameForm, subframes_spelling, filled, checked, frame_spelling}

-- ---- a subframe

module _ (most : ℕ) (wide : most ≤ 15) (ps : List LinearPredictor) (depth : ℕ) (deep : 1 ≤ depth) where
  plain_long : (k : ℕ) (t : List ℤ) → length (subframe_spelling depth (record { wasted = k; content = Verbatim t })) ≡ 8 + k + (depth - k) * length t
  unfolding content_spelling
  plain_long k t = length-subframe depth (record { wasted = k; content = Verbatim t }) ∙ ap (λ n. 8 + k + n) (length-samples (depth - k) t)

  -- the samples themselves, without the bits that all lack, take no fewer bits
  pub one_short : (f : Form) (s : List ℤ) → 0 < length s → All (FitsBits depth) s → IsLeastFor most ps depth s f → length (subframe_spelling depth f) ≤ 8 + depth + depth * length s
  one_short f s some fits least =
      let k : ℕ = f.wasted in
      let t : List ℤ = least.member.body.1 in
      let so : s ≡ map (times_power k) t = least.member.body.3 in
      let stands : Stands most (offered ps) (record { wasted = k; content = Verbatim t }) s = record { wasted = least.member.wasted; body = (verbatim t, t, refl, so, refl) } in
      let limits : Limits = record { partition = most; linear = 32 } in
      let left : k < depth = (family_with_stand most depth limits ps f s deep some (omega arith) wide (all_within ps) fits least.member).0.left in
      let long : length t ≡ length s = sym (length-map t (times_power k)) ∙ ap (λ (l : List ℤ). length l) (sym so) in
      let le = least.least (record { wasted = k; content = Verbatim t }) stands in
      let few : (depth - k) * length t ≤ depth * length s = subst (λ n. (depth - k) * length t ≤ depth * n) long (mul-le-mul_right (length t) (omega arith)) in
      omega (arith, le, plain_long k t, few, left)

one_more : (n m a b c : ℕ) → c ≡ a + b → a ≤ m → b ≤ n * m → c ≤ suc n * m
one_more n m a b c e h k = omega (arith, e, h, k)

module _ (most : ℕ) (wide : most ≤ 15) (depth : ℕ) (deep : 1 ≤ depth) where
  pub all_short : (lists : Lists) (size : ℕ) (fs : List Form) (block : List (List ℤ)) → 0 < size → All (λ s. length s ≡ size) block → All (λ s. All (FitsBits depth) s) block → AreLeast most lists depth fs block
      → length (flat_map (subframe_spelling depth) fs) ≤ length block * (8 + depth + depth * size)
  all_short lists size [] [] some long fits least = omega arith
  all_short lists size [] (s ∷ ss) some long fits least = absurd least
  all_short lists size (f ∷ fs) [] some long fits least = absurd least
  all_short lists size (f ∷ fs) (s ∷ ss) some long fits least =
      let here = All-head (λ s. length s ≡ size) s ss long in
      let one = one_short most wide (lists 0) depth deep f s (omega (arith, some, here)) (All-head (λ s. All (FitsBits depth) s) s ss fits) least.0 in
      let one' : length (subframe_spelling depth f) ≤ 8 + depth + depth * size = subst (λ n. length (subframe_spelling depth f) ≤ 8 + depth + depth * n) here one in
      let rest = all_short (later lists) size fs ss some (All-tail (λ s. length s ≡ size) s ss long) (All-tail (λ s. All (FitsBits depth) s) s ss fits) least.1 in
      one_more (length ss) (8 + depth + depth * size) _ _ _ (length-append (subframe_spelling depth f) (flat_map (subframe_spelling depth) fs)) one' rest

-- ---- a frame

pub whole_long : (text : List Bool) → length (checked (filled text)) ≡ 16 + length text + (8 - length text % 8) % 8
whole_long text =
    let n : ℕ = (8 - length text % 8) % 8 in
    omega (arith, length-append (filled text) (unsigned 16 (remainder 16 32773 (filled text))), length-append text (unsigned n 0), length-unsigned n 0, length-unsigned 16 (remainder 16 32773 (filled text)))

pub frame_short : (depth : ℕ) (f : FrameForm) → length (subframes_spelling depth f.header.channel_code 0 f.subframes) ≤ 16777280 → IsShort depth f
unfolding frame_spelling
frame_short depth f few =
    let parts = subframes_spelling depth f.header.channel_code 0 f.subframes in
    let text = header_spelling f.header ++ parts in
    omega (arith, whole_long text, length-append (header_spelling f.header) parts, header_few f.header, few)

pub parts_few : (n depth size : ℕ) → n ≤ 8 → depth ≤ 32 → size ≤ 65535 → n * (8 + depth + depth * size) ≤ 16777280
parts_few n depth size many shallow few =
    let one : 8 + depth + depth * size ≤ 2097160 = omega (arith, shallow, mul-le depth size 32 65535 shallow few) in
    omega (arith, mul-le n (8 + depth + depth * size) 8 2097160 many one)
