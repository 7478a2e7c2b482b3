-- What follows from all whole pages being found.
use Rattle.std.proofs.Common.{◌≡◌, inl, inr, ℕ, ◌≤◌, List, [], ◌∷◌, Some, None, refl, sym, ap, subst, ◌∙◌, arith}
use Rattle.flac_whole_pages.specs.Standing.{Stands, IsNextWhole}
use Rattle.flac_whole_pages.specs.Found.{Found, FoundUpTo, IsMet, SomeOf, AreInOrder, NoneIsMissed, FoundAreInOrder, FoundOnce}
use Rattle.flac_whole_pages.specs.declared.page_at.WholePage.{WholePage}
use Rattle.flac_whole_pages.proofs.Nones.{lt_or_not}
use Rattle.flac_whole_pages.proofs.Stated.{same_standing}

-- ---- none is missed

module _ (bytes : List ℕ) (p : WholePage) (there : Stands bytes p) where
  missed_none : (from : ℕ) (pages : List WholePage) → Found bytes from pages → from ≤ p.at → SomeOf (IsMet p) pages
  missed_none from [] found least = absurd (found p.at least p refl there)
  missed_none from (q ∷ more) found least = elim (lt_or_not p.at q.at) [
    | inl before ↦ absurd (found.0.least p.at before least p refl there)
    | inr later ↦ elim (lt_or_not p.at q.end) [
      | inl inside ↦ inl (record {
        from = later;
        to = inside;
        same = λ e. same_standing bytes q p (sym e) found.0.stands there;
      })
      | inr after ↦ inr (missed_none q.end more found.1 after)
    ]
  ]

pub none_is_missed : NoneIsMissed
none_is_missed bytes from pages found p least there = missed_none bytes p there from pages found least

-- ---- in order

module _ (bytes : List ℕ) where
  all_in_order : (from : ℕ) (pages : List WholePage) → Found bytes from pages → AreInOrder bytes from pages
  all_in_order from [] found = tt
  all_in_order from (p ∷ more) found = (found.0.after, found.0.stands, all_in_order p.end more found.1)

  some_in_order : (end from : ℕ) (pages : List WholePage) → FoundUpTo bytes end from pages → AreInOrder bytes from pages
  some_in_order end from [] found = tt
  some_in_order end from (p ∷ more) found = (found.0.after, found.0.stands, some_in_order end p.end more found.1)

pub found_are_in_order : FoundAreInOrder
found_are_in_order bytes from None pages found = all_in_order bytes from pages found
found_are_in_order bytes from (Some end) pages found = some_in_order bytes end from pages found

-- ---- only once

module _ (bytes : List ℕ) where
  same_at : (from : ℕ) (p q : WholePage) → IsNextWhole bytes from p → IsNextWhole bytes from q → p.at ≤ q.at
  same_at from p q a b = elim (lt_or_not q.at p.at) [
    | inl before ↦ absurd (a.least q.at before b.after q refl b.stands)
    | inr later ↦ later
  ]

  same_next : (from : ℕ) (p q : WholePage) → IsNextWhole bytes from p → IsNextWhole bytes from q → p ≡ q
  same_next from p q a b =
      let x = same_at from p q a b in
      let y = same_at from q p b a in
      same_standing bytes p q (omega (arith, x, y)) a.stands b.stands

  once : (from : ℕ) (one other : List WholePage) → Found bytes from one → Found bytes from other → one ≡ other
  once from [] [] a b = refl
  once from [] (q ∷ other) a b = absurd (a q.at b.0.after q refl b.0.stands)
  once from (p ∷ one) [] a b = absurd (b p.at a.0.after p refl a.0.stands)
  once from (p ∷ one) (q ∷ other) a b =
      let same : p ≡ q = same_next from p q a.0 b.0 in
      let after : Found bytes p.end other = subst (λ (x : WholePage). Found bytes x.end other) (sym same) b.1 in
      ap (λ (x : WholePage). x ∷ one) same ∙ ap (λ (l : List WholePage). q ∷ l) (once p.end one other a.1 after)

pub found_once : FoundOnce
found_once bytes from one other a b = once bytes from one other a b
