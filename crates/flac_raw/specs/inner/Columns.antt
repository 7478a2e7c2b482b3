-- For proofs of taking one channel out of a piece of raw samples.
use Rattle.std.specs.Prelude.{ℕ, ℤ, List}
use Rattle.flac_raw.specs.Reading.{IsPart, IsMore}
use Rattle.flac_raw.specs.declared.raw.Column.{Column}

-- the samples of this column of a piece were added, of `width` bytes each
abbrev pub AddsColumn : Column → (width : ℕ) (piece : List ℕ) (old new : List ℤ) → Type 0
AddsColumn c width piece old new = IsMore (IsPart c.stride c.start width) piece c.stride c.count old new
