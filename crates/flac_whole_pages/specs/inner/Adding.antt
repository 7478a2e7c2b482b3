-- What private contracts and proofs need.
use Rattle.std.specs.Prelude.{◌≡◌, ℕ, ◌≤◌, ◌<◌, true, List, [], ◌∷◌, length, slice_index_or, Option, ⊤}
use Rattle.flac_whole_pages.specs.Standing.{Stands, NoneBetween}
use Rattle.flac_whole_pages.specs.Found.{FoundIn}
use Rattle.flac_whole_pages.specs.Left.{begins_flac, native_parts}
use Rattle.flac_whole_pages.specs.Parts.{joined}
use Rattle.flac_whole_pages.specs.declared.left.Left.{Left}
use Rattle.flac_whole_pages.specs.declared.part.Part.{Part}
use Rattle.flac_whole_pages.specs.declared.page_at.WholePage.{WholePage}

-- the budget was spent at an offset, before which no page stands
abbrev pub IsSpentAt : List ℕ → (from : ℕ) → (budget at : ℕ) → Type 0
IsSpentAt bytes from budget at = (budget ≡ 0) × (from ≤ at) × NoneBetween bytes from at

-- each of these pages stands
abbrev pub AreStanding : List ℕ → List WholePage → Type 0
AreStanding bytes [] = ⊤
AreStanding bytes (p ∷ more) = Stands bytes p × AreStanding bytes more

-- a page that is not there
abbrev pub no_page : WholePage
no_page = record { at = 0; serial = 0; body = 0; end = 0 }

-- the first page of FLAC is that of this index, if one is
abbrev pub IsFirstAt : List ℕ → List WholePage → (index : ℕ) → Type 0
IsFirstAt bytes pages index = index < length pages → begins_flac bytes (slice_index_or pages index no_page) ≡ true

-- these are the parts of the pages that were found
pub record ArePartsIn (bytes : List ℕ) (cut : Option ℕ) (parts : List Part) : Type 0 where
  pub pages : List WholePage
  pub found : FoundIn bytes 0 cut pages
  pub are : parts ≡ native_parts bytes pages

-- this is a part of an input
pub record IsPart (input : List ℕ) (part : Part) (ended : Option ℕ) (l : Left) : Type 0 where
  pub cut : l.cut ≡ ended
  pub parts : l.parts.items ≡ part ∷ []
  pub bytes : l.bytes.items ≡ joined input (part ∷ [])
  pub end : l.end ≡ part.end
