-- What is missing of a stream of which some frames were kept (RFC 9639, sections 8.2 and 9.1.5).
use Rattle.std.specs.Prelude.{◌≡◌, ℕ, ◌+◌, ◌-◌, ◌≤◌, ◌^◌, cond, nat_eq, List, [], ◌∷◌, ⊤, ◌<◌, length, slice_index_or, true}
use Rattle.flac_salvage.specs.Chain.{end_of}
use Rattle.flac_salvage.specs.declared.find.WholeFrame.{WholeFrame}
use Rattle.flac_rescue.specs.declared.missing.Gap.{Gap}

-- the sample at which the stream ends if the total is stated; no frame has a sample of this number else
abbrev pub limit_of : (total : ℕ) → ℕ
limit_of total = cond (nat_eq total 0) (2 ^ 64 - 1) total

-- the sample at which the last gap ends: the total, or the end of the last frame if none is stated
abbrev pub last_of : (total first : ℕ) → ℕ
last_of total first = cond (nat_eq total 0) first total

-- no frame ends past the offset
abbrev pub AreWithin : (end : ℕ) → List WholeFrame → Type 0
AreWithin end [] = ⊤
AreWithin end (f ∷ more) = (f.at + f.bytes ≤ end) × AreWithin end more

-- the bytes and samples before each frame and after the last: those from the end of the one before it on
unfoldable pub gaps : (total end start first : ℕ) → List WholeFrame → List Gap
gaps total end start first [] = record { start = start; end = end; first = first; next = last_of total first } ∷ []
gaps total end start first (f ∷ more) =
    record { start = start; end = f.at; first = first; next = f.first } ∷ gaps total end (f.at + f.bytes) (end_of f) more

-- a frame that is not there
abbrev pub no_frame : WholeFrame
no_frame = record { at = 0; bytes = 0; first = 0; size = 0 }

-- the frame of this index is there, and stands at this offset
abbrev pub IsKeptAt : List WholeFrame → (index at : ℕ) → Type 0
IsKeptAt kept index at = (index < length kept) × (nat_eq (slice_index_or kept index no_frame).at at ≡ true)

-- the frames that were found and not kept
unfoldable pub others : (found kept : List WholeFrame) → List WholeFrame
others [] kept = []
others (f ∷ found) [] = f ∷ others found []
others (f ∷ found) (k ∷ kept) = cond (nat_eq k.at f.at) (others found kept) (f ∷ others found (k ∷ kept))
