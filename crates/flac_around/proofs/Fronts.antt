-- Tags at the start of an input.
use Rattle.std.proofs.Common.{◌≡◌, ◌≤◌, ◌<◌, ◌+◌, ◌-◌, ◌++◌, ◌∷◌, [], inl, inr, ℕ, Bool, true, false, List, length, drop, refl, sym, ap, ◌∙◌, arith}
use Rattle.std.specs.Prelude.{cond}
use Rattle.std.proofs.Math.Seq.{drop-append-add}
use Rattle.std.proofs.lemmas.List.{length-drop}
use Rattle.std.proofs.lemmas.Bool.{cases_lt}
use Rattle.flac_around.specs.Around.{front_length, past_front}

-- ten bytes show how long it is
front_long : (xs ys : List ℕ) → 10 ≤ length xs → front_length (xs ++ ys) ≡ front_length xs
front_long [] ys long = absurd (omega (arith, long))
front_long (i ∷ []) ys long = absurd (omega (arith, long))
front_long (i ∷ d ∷ []) ys long = absurd (omega (arith, long))
front_long (i ∷ d ∷ t ∷ []) ys long = absurd (omega (arith, long))
front_long (i ∷ d ∷ t ∷ v ∷ []) ys long = absurd (omega (arith, long))
front_long (i ∷ d ∷ t ∷ v ∷ r ∷ []) ys long = absurd (omega (arith, long))
front_long (i ∷ d ∷ t ∷ v ∷ r ∷ f ∷ []) ys long = absurd (omega (arith, long))
front_long (i ∷ d ∷ t ∷ v ∷ r ∷ f ∷ a ∷ []) ys long = absurd (omega (arith, long))
front_long (i ∷ d ∷ t ∷ v ∷ r ∷ f ∷ a ∷ b ∷ []) ys long = absurd (omega (arith, long))
front_long (i ∷ d ∷ t ∷ v ∷ r ∷ f ∷ a ∷ b ∷ c ∷ []) ys long = absurd (omega (arith, long))
front_long (i ∷ d ∷ t ∷ v ∷ r ∷ f ∷ a ∷ b ∷ c ∷ e ∷ more) ys long = refl

all_there : (xs : List ℕ) → xs ++ [] ≡ xs
all_there [] = refl
all_there (x ∷ xs) = ap (λ l. x ∷ l) (all_there xs)

none_dropped : (xs : List ℕ) → drop 0 xs ≡ xs
none_dropped [] = refl
none_dropped (x ∷ xs) = refl

-- and so do all bytes, if there are fewer
pub front_same : (xs ys : List ℕ) → (length xs < 10 → ys ≡ []) → front_length (xs ++ ys) ≡ front_length xs
front_same xs ys none = elim (cases_lt (length xs) 10) [
  | inl few ↦ ap (λ l. front_length (xs ++ l)) (none few) ∙ ap front_length (all_there xs)
  | inr long ↦ front_long xs ys long
]

-- a tag has ten bytes at least
small : (t : Bool) (n : ℕ) → cond t (10 + n) 0 < 10 → cond t (10 + n) 0 ≡ 0
small true n lt = absurd (omega (arith, lt))
small false n lt = refl

pub front_none : (xs : List ℕ) → front_length xs < 10 → front_length xs ≡ 0
front_none [] lt = refl
front_none (i ∷ []) lt = refl
front_none (i ∷ d ∷ []) lt = refl
front_none (i ∷ d ∷ t ∷ []) lt = refl
front_none (i ∷ d ∷ t ∷ v ∷ []) lt = refl
front_none (i ∷ d ∷ t ∷ v ∷ r ∷ []) lt = refl
front_none (i ∷ d ∷ t ∷ v ∷ r ∷ f ∷ []) lt = refl
front_none (i ∷ d ∷ t ∷ v ∷ r ∷ f ∷ a ∷ []) lt = refl
front_none (i ∷ d ∷ t ∷ v ∷ r ∷ f ∷ a ∷ b ∷ []) lt = refl
front_none (i ∷ d ∷ t ∷ v ∷ r ∷ f ∷ a ∷ b ∷ c ∷ []) lt = refl
front_none (i ∷ d ∷ t ∷ v ∷ r ∷ f ∷ a ∷ b ∷ c ∷ e ∷ more) lt = small _ _ lt

pub front_whole : (xs : List ℕ) → 10 ≤ front_length xs → 10 ≤ length xs
front_whole [] le = absurd (omega (arith, le))
front_whole (i ∷ []) le = absurd (omega (arith, le))
front_whole (i ∷ d ∷ []) le = absurd (omega (arith, le))
front_whole (i ∷ d ∷ t ∷ []) le = absurd (omega (arith, le))
front_whole (i ∷ d ∷ t ∷ v ∷ []) le = absurd (omega (arith, le))
front_whole (i ∷ d ∷ t ∷ v ∷ r ∷ []) le = absurd (omega (arith, le))
front_whole (i ∷ d ∷ t ∷ v ∷ r ∷ f ∷ []) le = absurd (omega (arith, le))
front_whole (i ∷ d ∷ t ∷ v ∷ r ∷ f ∷ a ∷ []) le = absurd (omega (arith, le))
front_whole (i ∷ d ∷ t ∷ v ∷ r ∷ f ∷ a ∷ b ∷ []) le = absurd (omega (arith, le))
front_whole (i ∷ d ∷ t ∷ v ∷ r ∷ f ∷ a ∷ b ∷ c ∷ []) le = absurd (omega (arith, le))
front_whole (i ∷ d ∷ t ∷ v ∷ r ∷ f ∷ a ∷ b ∷ c ∷ e ∷ more) le = omega arith

-- the first bytes came, and are no tag
pub no_tag : (xs coming later : List ℕ) → front_length xs < 10 → (length xs < 10 → later ≡ []) → coming ≡ xs ++ later → front_length coming ≡ 0
no_tag xs coming later lt none is = ap front_length is ∙ front_same xs later none ∙ front_none xs lt

pub all_past : (coming : List ℕ) → front_length coming ≡ 0 → past_front coming ≡ coming
all_past coming none = ap (λ n. drop n coming) none ∙ none_dropped coming

-- they are one
pub tag_there : (xs coming later : List ℕ) (size : ℕ) → size ≡ front_length xs → 10 ≤ size → coming ≡ xs ++ later → front_length coming ≡ size
tag_there xs coming later size same some is =
    ap front_length is ∙ front_same xs later (λ few. absurd (omega (arith, few, some, front_whole xs (omega (arith, same, some))))) ∙ sym same

pub tag_past : (xs coming later : List ℕ) (size : ℕ) → size ≡ front_length xs → 10 ≤ size → length xs ≤ 10 → coming ≡ xs ++ later → past_front coming ≡ drop (size - 10) later
tag_past xs coming later size same some few is =
    let long : length xs ≡ 10 = omega (arith, few, front_whole xs (omega (arith, same, some))) in
    let n : size ≡ length xs + (size - 10) = omega (arith, long, some) in
    ap (λ n. drop n coming) (tag_there xs coming later size same some is) ∙ ap (drop size) is ∙ ap (λ n. drop n (xs ++ later)) n ∙ drop-append-add xs later (size - 10)

-- no more than there is
pub few_past : (n : ℕ) (coming : List ℕ) → length coming ≤ n → length (past_front coming) ≤ n
few_past n coming few = omega (arith, few, length-drop (front_length coming) coming)
