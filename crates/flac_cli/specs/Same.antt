-- What the program reports of two streams that are compared.
use Rattle.std.specs.Prelude.{◌≡◌, ℕ, List, ◌++◌, codes, decimal, Option, Some, None, Result, Ok, Err}
use Rattle.flac_bits.specs.Handing.{InputReading}
use Rattle.flac_bits.specs.declared.source.Source as source
use Rattle.flac_bits.specs.declared.target.Target as target
use Rattle.flac_header.specs.declared.subset.Profile.TheVariants.{Lax}
use Rattle.flac_native.specs.Stream.{Piece}
use Rattle.flac_native.specs.Places.{fault_text}
use Rattle.flac_native.specs.declared.fault.Place.{Place}
use Rattle.flac_compare.specs.Streams.{ComparesInputs, ToldAll, input_of}
use Rattle.flac_compare.specs.declared.difference.Difference.{Difference}
use Rattle.flac_compare.specs.declared.difference.Difference.TheVariants.{Rate, Channels, Depth, Sample, Length}
use Rattle.flac_compare.specs.declared.difference.Unread.{Unread}
use Rattle.flac_compare.specs.declared.difference.Unread.TheVariants.{First, Second}
use Rattle.flac_jobs.specs.declared.comparisons.Comparison.{Comparison}
use Rattle.flac_cli.specs.Calls.{Passed, old_of, new_of, IfPrinted}
use Rattle.flac_cli.specs.Reports.{fault_line}

-- the bytes of a source as a native stream or an Ogg stream, also outside the streamable subset
abbrev pub lax_input : {S : Type 0} → source.Ghosts S → S → InputReading Piece Place
lax_input g s = input_of g Lax s

-- If the bytes of both sources are known, and neither failed, this holds of the two inputs.
abbrev pub IfBothTold : {S T : Type 0} (g : source.Ghosts S) (h : source.Ghosts T) (old new : S) (from to : T) → (InputReading Piece Place → InputReading Piece Place → Type 0) → Type 0
IfBothTold g h old new from to Says = ToldAll g old new → ToldAll h from to → Says (lax_input g old) (lax_input h from)

-- a line of two numbers, each after a text
abbrev pub two_numbers : (what : List ℕ) (first : ℕ) (between : List ℕ) (second : ℕ) → List ℕ
two_numbers what first between second = (what ++ decimal first) ++ ((between ++ decimal second) ++ codes "\n")

-- the line of a difference
abbrev pub difference_line : Difference → List ℕ
difference_line (Rate a b) = two_numbers (codes "rate ") a (codes " ") b
difference_line (Channels a b) = two_numbers (codes "channels ") a (codes " ") b
difference_line (Depth a b) = two_numbers (codes "bits ") a (codes " ") b
difference_line (Sample number channel) = two_numbers (codes "differ at sample ") number (codes " channel ") channel
difference_line (Length a b) = two_numbers (codes "samples ") a (codes " ") b

-- The status, and what was added to standard output and to standard error: 0 and nothing; or 1 and the line of a
-- difference; or 1 and the line of a fault, of the first or the second file.
abbrev pub IsComparison : Result (Option Difference) Unread → (path other : List ℕ) (status : ℕ) (out printed err told : List ℕ) → Type 0
IsComparison (Ok None) path other status out printed err told = (status ≡ 0) × (printed ≡ out) × (told ≡ err)
IsComparison (Ok (Some found)) path other status out printed err told = (status ≡ 1) × (printed ≡ out ++ difference_line found) × (told ≡ err)
IsComparison (Err (First f)) path other status out printed err told = (status ≡ 1) × (printed ≡ out) × (told ≡ err ++ fault_line path (fault_text f))
IsComparison (Err (Second f)) path other status out printed err told = (status ≡ 1) × (printed ≡ out) × (told ≡ err ++ fault_line other (fault_text f))

-- The status and the lines are those of what a comparison says of the two inputs.
pub record ReportsComparison (r s : InputReading Piece Place) (paths : Comparison) (status : ℕ) (out printed err told : List ℕ) : Type 0 where
  pub result : Result (Option Difference) Unread
  pub compares : ComparesInputs r s result
  pub answer : IsComparison result paths.first.now paths.second.now status out printed err told

-- the same of devices: if both sources are known, and no device failed
abbrev pub ReportsSame : {S T O E : Type 0} (g : source.Ghosts S) (h : source.Ghosts T) (o : target.Ghosts O) (k : target.Ghosts E) → Comparison → (status : ℕ) → Passed S → Passed T → Passed O → Passed E → Type 0
ReportsSame g h o k paths status first second out err =
    IfBothTold g h (old_of first) (new_of first) (old_of second) (new_of second) (λ r s. IfPrinted o k (old_of out) (new_of out) (old_of err) (new_of err) (ReportsComparison r s paths status))
