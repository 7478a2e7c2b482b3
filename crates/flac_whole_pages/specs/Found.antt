-- All whole pages of bytes (RFC 3533, section 6).
use Rattle.std.specs.Prelude.{◌≡◌, ◌⊎◌, ℕ, ◌<◌, ◌≤◌, List, [], ◌∷◌, Option, Some, None, ⊤}
use Rattle.flac_whole_pages.specs.Standing.{Stands, NoneStands, NoneBetween, IsNextWhole}
use Rattle.flac_whole_pages.specs.declared.page_at.WholePage.{WholePage}

-- All whole pages from an offset on: each is the first that stands from the end of the one before it on, and none
-- stands after the last.
abbrev pub Found : List ℕ → (from : ℕ) → List WholePage → Type 0
Found bytes from [] = NoneStands bytes from
Found bytes from (p ∷ more) = IsNextWhole bytes from p × Found bytes p.end more

-- those up to another offset
abbrev pub FoundUpTo : List ℕ → (end from : ℕ) → List WholePage → Type 0
FoundUpTo bytes end from [] = (from ≤ end) × NoneBetween bytes from end
FoundUpTo bytes end from (p ∷ more) = IsNextWhole bytes from p × FoundUpTo bytes end p.end more

-- all of them, or those up to the offset at which the search ended
abbrev pub FoundIn : List ℕ → (from : ℕ) → (cut : Option ℕ) → List WholePage → Type 0
FoundIn bytes from None pages = Found bytes from pages
FoundIn bytes from (Some end) pages = FoundUpTo bytes end from pages

-- ---- laws

-- The page is a found one, or begins inside one.
pub record IsMet (p found : WholePage) : Type 0 where
  pub from : found.at ≤ p.at
  pub to : p.at < found.end
  pub same : p.at ≡ found.at → found ≡ p

-- of one of a list
abbrev pub SomeOf : (WholePage → Type 0) → List WholePage → Type 0
SomeOf P [] = ⊥
SomeOf P (p ∷ more) = P p ⊎ SomeOf P more

-- Each page that stands whole is found, or begins inside a found one.
abbrev pub NoneIsMissed : Type 0
NoneIsMissed = (bytes : List ℕ) (from : ℕ) (pages : List WholePage) → Found bytes from pages
    → (p : WholePage) → from ≤ p.at → Stands bytes p → SomeOf (IsMet p) pages

-- the pages are in the order of the bytes, none begins before the end of the one before it, and all are in the bytes
abbrev pub AreInOrder : (bytes : List ℕ) (from : ℕ) → List WholePage → Type 0
AreInOrder bytes from [] = ⊤
AreInOrder bytes from (p ∷ more) = (from ≤ p.at) × Stands bytes p × AreInOrder bytes p.end more

-- Found pages are so, wherever the search ended.
abbrev pub FoundAreInOrder : Type 0
FoundAreInOrder = (bytes : List ℕ) (from : ℕ) (cut : Option ℕ) (pages : List WholePage) → FoundIn bytes from cut pages → AreInOrder bytes from pages

-- There is only one list of all whole pages.
abbrev pub FoundOnce : Type 0
FoundOnce = (bytes : List ℕ) (from : ℕ) (one other : List WholePage) → Found bytes from one → Found bytes from other → one ≡ other
