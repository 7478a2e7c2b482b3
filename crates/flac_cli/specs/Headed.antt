-- Where the metadata of a stream ends.
use Rattle.std.specs.Prelude.{◌≡◌, ◌≢◌, ℕ, Bool, true, false, ◌||◌, List, [], ◌∷◌, ◌++◌, Option, Some}
use Rattle.flac_bits.specs.Handing.{InputReading}
use Rattle.flac_bits.specs.declared.why.Why.{Why}
use Rattle.flac_bits.specs.declared.why.Why.TheVariants as why
use Rattle.flac_native.specs.Coming.{ReadAs}
use Rattle.flac_native.specs.Stream.{Piece, marked, block, framed}
use Rattle.flac_native.specs.declared.fault.Place.{Place}
use Rattle.flac_header.specs.declared.subset.Profile.TheVariants.{Lax}
use Rattle.flac_bits.specs.declared.source.Source as source
use Rattle.flac_bits.specs.declared.target.Target as target
use Rattle.flac_cli.specs.Calls.{IfServed}
use Rattle.flac_cli.specs.Outcomes.{reason_text, input_reading}
use Rattle.flac_cli.specs.Reports.{fault_line}
use Rattle.flac_cli.specs.Streams.{Tells}

-- a metadata block that is marked as the last one (RFC 9639, section 8.1)
abbrev pub is_last : Piece → Bool
is_last marked = false
is_last (block last b) = last
is_last (framed f) = false

-- one of these parts is such a block
abbrev pub has_last : List Piece → Bool
has_last [] = false
has_last (x ∷ xs) = is_last x || has_last xs

-- As what this input is read, as a stream or up to its refusal: the last block is among its parts. An input is read in
-- one way.
abbrev pub HasHead : InputReading Piece Place → Type 0
HasHead r = (parts : List Piece) (end : Option (Place × Why)) → ReadAs r parts end → has_last parts ≡ true

-- these parts, which have no last block, are all before the refusal at this place and for this reason
abbrev pub IsHeadRefused : List Piece → Option (Place × Why) → Place → Why → Type 0
IsHeadRefused parts end at why = (has_last parts ≡ false) × (end ≡ Some (at, why))

-- as what this input is read: it is refused before its last block, at this place and for this reason
abbrev pub HasHeadRefused : InputReading Piece Place → Place → Why → Type 0
HasHeadRefused r at why = (parts : List Piece) (end : Option (Place × Why)) → ReadAs r parts end → IsHeadRefused parts end at why

-- The line that was added is that of the refusal before the last block, if it does not say that memory ran out or that
-- standard output took no more lines.
pub record HeadReport (r : InputReading Piece Place) (path : List ℕ) (before after : List ℕ) : Type 0 where
  pub at : Place
  pub reason : Why
  pub line : after ≡ before ++ fault_line path (reason_text (Some at) reason)
  pub fits : reason ≢ why.Memory → reason ≢ why.Sink → HasHeadRefused r at reason

-- the line of some fault of this file was added
abbrev pub IsFaultOf : (path : List ℕ) → (before after : List ℕ) → Type 0
IsFaultOf path before after = (at : Place) × (reason : Why) × (after ≡ before ++ fault_line path (reason_text (Some at) reason))

-- how the bytes of a source, and what comes after them, are read
abbrev pub any_reading : {S : Type 0} → source.Ghosts S → S → InputReading Piece Place
any_reading g s = input_reading Lax (g.coming s) (g.after s)

-- If neither the source nor standard error failed: the line of the refusal before the last block was added, or it says
-- that memory ran out or that standard output took no more lines. `k` is that of the type of standard error.
abbrev pub ReportsHead : {S E : Type 0} (g : source.Ghosts S) (k : target.Ghosts E) → (path : List ℕ) → (from to : S) (before after : E) → Type 0
ReportsHead g k path from to before after = Tells g from to → IfServed k before after (HeadReport (any_reading g from) path)
