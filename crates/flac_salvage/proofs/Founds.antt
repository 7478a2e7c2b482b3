-- What follows from all whole frames being found.
use Rattle.std.proofs.Common.{◌≡◌, ◌⊎◌, inl, inr, ℕ, ◌+◌, ◌<◌, ◌≤◌, List, [], ◌∷◌, length, refl, sym, ap, subst, ◌∙◌, arith}
use Rattle.flac_info.specs.Info.{Info}
use Rattle.flac_header.specs.declared.subset.Profile.{Profile}
use Rattle.flac_frame.specs.Frame.{Frame}
use Rattle.flac_salvage.specs.Standing.{Stands, IsNextWhole}
use Rattle.flac_salvage.specs.Found.{Spot, Found, Covers, SomeOf, IsIn, missing, IsMet, NoneIsMissed, EachIsTold, NoneIsBoth, FoundOnce}
use Rattle.flac_salvage.proofs.NoneBetween.{lt_or_not}

-- ---- none is missed

module _ (profile : Profile) (i : Info) (bytes : List ℕ) (k : ℕ) (f : Frame) (n : ℕ) (there : Stands profile i bytes k f n) where
  missed_none : (from : ℕ) (spots : List Spot) → Found profile i bytes from spots → from ≤ k → SomeOf (IsMet k f n) spots
  missed_none from [] found least = absurd (found k least f n there)
  missed_none from (s ∷ more) found least = elim (lt_or_not k s.at) [
    | inl before ↦ absurd (found.0.least k before least f n there)
    | inr later ↦ elim (lt_or_not k (s.at + s.len)) [
      | inl inside ↦ inl (record {
        covered = record { from = later; to = inside };
        same = λ e. found.0.only f n (subst (λ q. Stands profile i bytes q f n) e there);
      })
      | inr after ↦ inr (missed_none (s.at + s.len) more found.1 after)
    ]
  ]

pub none_is_missed : NoneIsMissed
none_is_missed profile i bytes from spots found k f n least there = missed_none profile i bytes k f n there from spots found least

-- ---- each is told

module _ (profile : Profile) (i : Info) (bytes : List ℕ) (k : ℕ) (inside : k < length bytes) where
  told : (from : ℕ) (spots : List Spot) → Found profile i bytes from spots → from ≤ k → SomeOf (Covers k) spots ⊎ SomeOf (IsIn k) (missing from (length bytes) spots)
  told from [] found least = inr (inl (record { from = least; to = inside }))
  told from (s ∷ more) found least = elim (lt_or_not k s.at) [
    | inl before ↦ inr (inl (record { from = least; to = before }))
    | inr later ↦ elim (lt_or_not k (s.at + s.len)) [
      | inl in_it ↦ inl (inl (record { from = later; to = in_it }))
      | inr after ↦ elim (told (s.at + s.len) more found.1 after) [
        | inl a ↦ inl (inr a)
        | inr b ↦ inr (inr b)
      ]
    ]
  ]

pub each_is_told : EachIsTold
each_is_told profile i bytes from spots found k least inside = told profile i bytes k inside from spots found least

-- ---- none is both

module _ (profile : Profile) (i : Info) (bytes : List ℕ) (k : ℕ) where
  covers_after : (from : ℕ) (spots : List Spot) → Found profile i bytes from spots → SomeOf (Covers k) spots → from ≤ k
  covers_after from [] found none = absurd none
  covers_after from (s ∷ more) found (inl c) = let a = found.0.after in let b = c.from in omega (arith, a, b)
  covers_after from (s ∷ more) found (inr c) = let a = found.0.after in let b = covers_after (s.at + s.len) more found.1 c in omega (arith, a, b)

  missing_after : (from : ℕ) (spots : List Spot) → Found profile i bytes from spots → SomeOf (IsIn k) (missing from (length bytes) spots) → from ≤ k
  missing_after from [] found (inl r) = r.from
  missing_after from [] found (inr none) = absurd none
  missing_after from (s ∷ more) found (inl r) = r.from
  missing_after from (s ∷ more) found (inr r) = let a = found.0.after in let b = missing_after (s.at + s.len) more found.1 r in omega (arith, a, b)

  not_both : (from : ℕ) (spots : List Spot) → Found profile i bytes from spots → SomeOf (Covers k) spots → SomeOf (IsIn k) (missing from (length bytes) spots) → ⊥
  not_both from [] found none r = absurd none
  not_both from (s ∷ more) found (inl c) (inl r) = let a = c.from in let b = r.to in absurd (omega (arith, a, b))
  not_both from (s ∷ more) found (inl c) (inr r) = let a = c.to in let b = missing_after (s.at + s.len) more found.1 r in absurd (omega (arith, a, b))
  not_both from (s ∷ more) found (inr c) (inl r) = let a = covers_after (s.at + s.len) more found.1 c in let b = r.to in absurd (omega (arith, a, b))
  not_both from (s ∷ more) found (inr c) (inr r) = not_both (s.at + s.len) more found.1 c r

pub none_is_both : NoneIsBoth
none_is_both profile i bytes from spots found k c r = not_both profile i bytes k from spots found c r

-- ---- only once

same_spot : (s t : Spot) → s.at ≡ t.at → s.len ≡ t.len → s.frame ≡ t.frame → s ≡ t
same_spot s t a l f =
    let at : ℕ → Spot = λ k. record { at = k; len = s.len; frame = s.frame } in
    let len : ℕ → Spot = λ k. record { at = t.at; len = k; frame = s.frame } in
    let frame : Frame → Spot = λ x. record { at = t.at; len = t.len; frame = x } in
    ap at a ∙ ap len l ∙ ap frame f

module _ (profile : Profile) (i : Info) (bytes : List ℕ) where
  same_at : (from : ℕ) (s t : Spot) → IsNextWhole profile i bytes from s.at s.frame s.len → IsNextWhole profile i bytes from t.at t.frame t.len → s.at ≤ t.at
  same_at from s t a b = elim (lt_or_not t.at s.at) [
    | inl before ↦ absurd (a.least t.at before b.after t.frame t.len b.stands)
    | inr later ↦ later
  ]

  same_next : (from : ℕ) (s t : Spot) → IsNextWhole profile i bytes from s.at s.frame s.len → IsNextWhole profile i bytes from t.at t.frame t.len → s ≡ t
  same_next from s t a b =
      let x = same_at from s t a b in
      let y = same_at from t s b a in
      let here : s.at ≡ t.at = omega (arith, x, y) in
      let both = a.only t.frame t.len (subst (λ k. Stands profile i bytes k t.frame t.len) (sym here) b.stands) in
      same_spot s t here both.1 both.0

  once : (from : ℕ) (one other : List Spot) → Found profile i bytes from one → Found profile i bytes from other → one ≡ other
  once from [] [] a b = refl
  once from [] (t ∷ other) a b = absurd (a t.at b.0.after t.frame t.len b.0.stands)
  once from (s ∷ one) [] a b = absurd (b s.at a.0.after s.frame s.len a.0.stands)
  once from (s ∷ one) (t ∷ other) a b =
      let same : s ≡ t = same_next from s t a.0 b.0 in
      let after : Found profile i bytes (s.at + s.len) other = subst (λ (x : Spot). Found profile i bytes (x.at + x.len) other) (sym same) b.1 in
      ap (λ (x : Spot). x ∷ one) same ∙ ap (λ (l : List Spot). t ∷ l) (once (s.at + s.len) one other a.1 after)

pub found_once : FoundOnce
found_once profile i bytes from one other a b = once profile i bytes from one other a b
