-- The subframes of a block, written one after another.
use Rattle.std.proofs.Common.{◌≡◌, ◌∙◌, sym, ap, ℕ, zero, suc, ◌+◌, ◌≤◌, ◌<◌, arith, ℤ, pos, List, [], ◌∷◌, ◌++◌, length, take, drop, get_or, set, Some, Result, Ok, Err, All}
use Rattle.std.proofs.lemmas.List.{take_more, take_more_set, length-take-le, length-drop, map-append}
use Rattle.std.proofs.lemmas.List.Elements.{All-take, All-head, All-tail, All-cons, All-nil}
use Rattle.flac_bits.specs.Signed.{FitsBits}
use Rattle.flac_bits.specs.declared.why.Why.{Why}
use Rattle.flac_subframe.specs.declared.format.limits.Limits.{Limits}
use Rattle.flac_subframe.specs.format.Handed.{AreWithin}
use Rattle.flac_subframe.specs.format.Spelling.{IsSubframe}
use Rattle.flac_subframe.specs.format.Subframe.{Form, samples_of}
use Rattle.flac_frame.specs.Encoding.{block_of}
use Rattle.flac_frame.specs.PlaneLists.{Lists, later}
use Rattle.flac_frame.specs.inner.Encoding.{AreFormsByPlane, AreLeast, IsLeastFor}

-- ---- samples in wider places

pub widen_more : (xs out : List ℤ) (i : ℕ) (v : ℤ) → i < length xs → length out ≡ length xs → v ≡ get_or xs i (pos 0) → take i out ≡ take i xs → take (i + 1) (set out i v) ≡ take (i + 1) xs
widen_more xs out i v lt long is same = take_more_set out i v (omega (arith, long, lt)) ∙ rw (same, is) (sym (take_more xs i (pos 0) lt))

-- ---- forms of samples

abbrev pub okay : Unit {0} → Result (Unit {0}) Why
okay x = Ok x

abbrev pub failed : Why → Result (Unit {0}) Why
failed e = Err e

module _ (depth size : ℕ) (deep : 1 ≤ depth) (some : 1 ≤ size) where
  -- a block of channels that are long enough, and fit
  abbrev pub IsBlock : List (List ℤ) → Type 0
  IsBlock block = All (λ s. length s ≡ size) block × All (λ s. All (FitsBits depth) s) block

module _ (most depth size : ℕ) where
  pub forms-more : (lists : Lists) (fs : List Form) (block : List (List ℤ)) (f : Form) (s : List ℤ) → length fs ≡ length block → AreFormsByPlane most lists depth size fs block
      → ((limits : Limits) → most ≤ limits.partition → AreWithin limits.linear (lists (length block)) → IsSubframe depth size limits f) → samples_of depth size f ≡ Some s → AreFormsByPlane most lists depth size (fs ++ f ∷ []) (block ++ s ∷ [])
  forms-more lists [] [] f s e h valid samples = (valid, samples, tt)
  forms-more lists [] (t ∷ ts) f s e h valid samples = absurd h
  forms-more lists (g ∷ gs) [] f s e h valid samples = absurd h
  forms-more lists (g ∷ gs) (t ∷ ts) f s e h valid samples = (h.0, h.1, forms-more (later lists) gs ts f s (omega (arith, e)) h.2 valid samples)

  pub least-more : (lists : Lists) (fs : List Form) (block : List (List ℤ)) (f : Form) (s : List ℤ) → length fs ≡ length block → AreLeast most lists depth fs block → IsLeastFor most (lists (length block)) depth s f → AreLeast most lists depth (fs ++ f ∷ []) (block ++ s ∷ [])
  least-more lists [] [] f s e h least = (least, tt)
  least-more lists [] (t ∷ ts) f s e h least = absurd h
  least-more lists (g ∷ gs) [] f s e h least = absurd h
  least-more lists (g ∷ gs) (t ∷ ts) f s e h least = (h.0, least-more (later lists) gs ts f s (omega (arith, e)) h.1 least)

-- ---- a block of longer channels

all_drop : (P : ℤ → Type 0) (n : ℕ) (xs : List ℤ) → All P xs → All P (drop n xs)
all_drop P zero xs all = all
all_drop P (suc n) [] all = all
all_drop P (suc n) (x ∷ xs) all = all_drop P n xs (All-tail P x xs all)

module _ (depth start size : ℕ) where
  part_long : (c : List ℤ) → start + size ≤ length c → length (take size (drop start c)) ≡ size
  part_long c h = length-take-le size (drop start c) (rw (length-drop start c) (omega (arith, h)))

  pub part_fits : (c : List ℤ) → All (FitsBits depth) c → All (FitsBits depth) (take size (drop start c))
  part_fits c h = All-take (FitsBits depth) size (drop start c) (all_drop (FitsBits depth) start c h)

  pub is_block : (deep : 1 ≤ depth) (some : 1 ≤ size) (cs : List (List ℤ)) → All (λ c. start + size ≤ length c) cs → All (λ c. All (FitsBits depth) c) cs → IsBlock depth size deep some (block_of start size cs)
  is_block deep some [] long fit = (All-nil (λ s. length s ≡ size), All-nil (λ s. All (FitsBits depth) s))
  is_block deep some (c ∷ cs) long fit =
      let rest = is_block deep some cs (All-tail (λ c. start + size ≤ length c) c cs long) (All-tail (λ c. All (FitsBits depth) c) c cs fit) in
      let s : List ℤ = take size (drop start c) in (
        All-cons (λ s. length s ≡ size) s (block_of start size cs) (part_long c (All-head (λ c. start + size ≤ length c) c cs long)) rest.0,
        All-cons (λ s. All (FitsBits depth) s) s (block_of start size cs) (part_fits c (All-head (λ c. All (FitsBits depth) c) c cs fit)) rest.1,
      )

pub block_more : (start size : ℕ) (cs : List (List ℤ)) (i : ℕ) → i < length cs → block_of start size (take (i + 1) cs) ≡ block_of start size (take i cs) ++ take size (drop start (get_or cs i [])) ∷ []
block_more start size cs i lt = ap (block_of start size) (take_more cs i [] lt) ∙ map-append (λ c. take size (drop start c)) (take i cs) (get_or cs i [] ∷ [])
