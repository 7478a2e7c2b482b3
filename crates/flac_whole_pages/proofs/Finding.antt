-- What a search that goes on from each page to the next has found.
use Rattle.std.proofs.Common.{◌≡◌, inl, inr, ℕ, ◌≤◌, List, [], ◌∷◌, ◌++◌, Option, Some, IfSome, length, sym, subst, arith}
use Rattle.flac_whole_pages.specs.Standing.{Stands, NoneBetween, NoneStands, IsNextWhole}
use Rattle.flac_whole_pages.specs.Found.{Found, FoundUpTo}
use Rattle.flac_whole_pages.specs.declared.page_at.WholePage.{WholePage}
use Rattle.flac_whole_pages.proofs.Nones.{lt_or_not, none_on, none_past}

module _ (bytes : List ℕ) where
  -- a page that is next from an offset on is next from an earlier one up to which there is none
  next_from : (from at : ℕ) (p : WholePage) → from ≤ at → NoneBetween bytes from at → IsNextWhole bytes at p → IsNextWhole bytes from p
  next_from from at p later none next = record {
    after = let a = next.after in omega (arith, a, later);
    stands = next.stands;
    least = none_on bytes from at p.at none next.least;
  }

  pub at_first : (from : ℕ) → FoundUpTo bytes from from []
  at_first from = (omega arith, λ k below least. absurd (omega (arith, below, least)))

  -- one page more
  pub and_next : (from at : ℕ) (pages : List WholePage) (p : WholePage) → FoundUpTo bytes at from pages → IsNextWhole bytes at p → FoundUpTo bytes p.end from (pages ++ p ∷ [])
  and_next from at [] p found next = (next_from from at p found.0 found.1 next, at_first p.end)
  and_next from at (q ∷ more) p found next = (found.0, and_next q.end at more p found.1 next)

  -- no page more
  pub and_none : (from at : ℕ) (pages : List WholePage) → FoundUpTo bytes at from pages → NoneStands bytes at → Found bytes from pages
  and_none from at [] found none = λ k least. elim (lt_or_not k at) [
    | inl h ↦ found.1 k h least
    | inr h ↦ none k h
  ]
  and_none from at (q ∷ more) found none = (found.0, and_none q.end at more found.1 none)

  pub and_end : (from at : ℕ) (pages : List WholePage) → FoundUpTo bytes at from pages → length bytes ≤ at → Found bytes from pages
  and_end from at pages found past = and_none from at pages found (λ k least. none_past bytes k (omega (arith, past, least)))

  -- none up to a later end
  pub and_cut : (from at end : ℕ) (pages : List WholePage) → FoundUpTo bytes at from pages → at ≤ end → NoneBetween bytes at end → FoundUpTo bytes end from pages
  and_cut from at end [] found later none = (let a = found.0 in omega (arith, a, later), none_on bytes from at end found.1 none)
  and_cut from at end (q ∷ more) found later none = (found.0, and_cut q.end at end more found.1 later none)

  -- the page that a call found
  pub next_is : (from at : ℕ) (p : WholePage) → from ≤ at → NoneBetween bytes from at → p.at ≡ at → Stands bytes p → IsNextWhole bytes from p
  next_is from at p later none is there = record {
    after = omega (arith, is, later);
    stands = there;
    least = subst (λ k. NoneBetween bytes from k) (sym is) none;
  }

  pub given : (at : ℕ) (o : Option WholePage) (p : WholePage) → o ≡ Some p → IfSome o (IsNextWhole bytes at) → IsNextWhole bytes at p
  given at o p is found = subst (λ o. IfSome o (IsNextWhole bytes at)) is found
