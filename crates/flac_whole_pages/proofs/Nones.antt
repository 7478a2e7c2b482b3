-- No page stands from an offset up to another.
use Rattle.std.proofs.Common.{ℕ, ◌+◌, ◌<◌, ◌≤◌, ◌⊎◌, inl, inr, zero, suc, below_more, List, length, arith}
use Rattle.flac_whole_pages.specs.Standing.{Stands, NoneAt, NoneStands, NoneBetween}
use Rattle.flac_whole_pages.specs.declared.page_at.WholePage.{WholePage}

pub lt_or_not : (a b : ℕ) → (a < b) ⊎ (b ≤ a)
lt_or_not a zero = inr (omega arith)
lt_or_not zero (suc b) = inl (omega arith)
lt_or_not (suc a) (suc b) = elim (lt_or_not a b) [
  | inl h ↦ inl (omega (arith, h))
  | inr h ↦ inr (omega (arith, h))
]

module _ (bytes : List ℕ) where
  -- a page has bytes, all of them inside
  pub has_bytes : (p : WholePage) → Stands bytes p → (p.at < p.end) × (p.end ≤ length bytes)
  has_bytes p there = let long = there.stated.long in (omega (arith, long), there.stated.inside)

  pub none_past : (k : ℕ) → length bytes ≤ k → NoneAt bytes k
  none_past k past = λ p is there. let has = has_bytes p there in let a = has.0 in let b = has.1 in omega (arith, past, is, a, b)

  pub none_more : (from at : ℕ) → NoneBetween bytes from at → NoneAt bytes at → NoneBetween bytes from (at + 1)
  none_more from at before here = below_more (λ k. from ≤ k → NoneAt bytes k) at before (λ least. here)

  pub none_all : (from at : ℕ) → NoneBetween bytes from at → length bytes ≤ at → NoneStands bytes from
  none_all from at before past = λ k least. elim (lt_or_not k at) [
    | inl h ↦ before k h least
    | inr h ↦ none_past k (omega (arith, h, past))
  ]

  -- none up to an offset, and none from there up to another
  pub none_on : (from at end : ℕ) → NoneBetween bytes from at → NoneBetween bytes at end → NoneBetween bytes from end
  none_on from at end first second = λ k below least. elim (lt_or_not k at) [
    | inl h ↦ first k h least
    | inr h ↦ second k below h
  ]
