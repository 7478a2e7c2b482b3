-- Where whole pages stand in bytes, whatever is around them (RFC 3533, section 6).
use Rattle.std.specs.Prelude.{◌≡◌, ℕ, ◌+◌, ◌-◌, ◌<◌, ◌≤◌, List, [], ◌∷◌, ◌++◌, length, take, drop, get_or, replicate, Bool, true, eqb}
use Rattle.std.specs.Int.{from_le_bytes, w32}
use Rattle.std.specs.List.{sum, starts_with}
use Rattle.flac_bits.specs.Bits.{bits_of}
use Rattle.flac_bits.specs.Check.{remainder}
use Rattle.flac_whole_pages.specs.declared.page_at.WholePage.{WholePage}

-- the bytes from an offset up to another
abbrev pub between : (start end : ℕ) → List ℕ → List ℕ
between start end bytes = take (end - start) (drop start bytes)

-- whether the capture pattern `OggS` and version 0 are at an offset (fields 1 and 2)
abbrev pub is_captured : List ℕ → (at : ℕ) → Bool
is_captured bytes at = starts_with eqb (drop at bytes) (0x4F ∷ 0x67 ∷ 0x67 ∷ 0x53 ∷ 0 ∷ [])

-- the bytes of a page, of which those of its checksum, 22 to 25, count as 0 (field 7)
abbrev pub unsummed : (at end : ℕ) → List ℕ → List ℕ
unsummed at end bytes = between at (at + 22) bytes ++ (replicate 4 0 ++ between (at + 26) end bytes)

-- What a page states that begins at an offset: its serial number, how many lacing values it has, and these, whose sum is
-- how many bytes follow; all of them are there (fields 1, 2, 5, 8, 9).
pub record IsStated (bytes : List ℕ) (at : ℕ) (p : WholePage) : Type 0 where
  pub is : p.at ≡ at
  pub captured : is_captured bytes at ≡ true
  pub serial : p.serial ≡ from_le_bytes w32 (between (at + 14) (at + 14 + 4) bytes)
  pub body : p.body ≡ at + 27 + get_or bytes (at + 26) 0
  pub end : p.end ≡ p.body + sum (between (at + 27) p.body bytes)
  pub long : at + 27 ≤ p.end
  pub inside : p.end ≤ length bytes

-- The page stands whole: its header and all of its segments are there, and it states the checksum of its bytes (field 7).
pub record Stands (bytes : List ℕ) (p : WholePage) : Type 0 where
  pub stated : IsStated bytes p.at p
  pub check : from_le_bytes w32 (between (p.at + 22) (p.at + 22 + 4) bytes) ≡ remainder 32 79764919 (bits_of (unsummed p.at p.end bytes))

-- this holds of each page that stands at an offset
abbrev pub EachAt : List ℕ → (at : ℕ) → (WholePage → Type 0) → Type 0
EachAt bytes at Says = (p : WholePage) → p.at ≡ at → Stands bytes p → Says p

-- no page stands at an offset
abbrev pub NoneAt : List ℕ → (at : ℕ) → Type 0
NoneAt bytes at = EachAt bytes at (λ p. ⊥)

-- none from an offset on
abbrev pub NoneStands : List ℕ → (from : ℕ) → Type 0
NoneStands bytes from = (k : ℕ) → from ≤ k → NoneAt bytes k

-- none from an offset up to another
abbrev pub NoneBetween : List ℕ → (from at : ℕ) → Type 0
NoneBetween bytes from at = (k : ℕ) → k < at → from ≤ k → NoneAt bytes k

-- the page is the first that stands whole from an offset on
pub record IsNextWhole (bytes : List ℕ) (from : ℕ) (p : WholePage) : Type 0 where
  pub after : from ≤ p.at
  pub stands : Stands bytes p
  pub least : NoneBetween bytes from p.at
