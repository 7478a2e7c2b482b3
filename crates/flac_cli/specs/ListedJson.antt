-- The line of JSON of a file's metadata blocks (RFC 8259; RFC 9639, section 8).
use Rattle.std.specs.Prelude.{◌≡◌, ◌||◌, ℕ, nat_eq, Bool, true, cond, List, [], ◌∷◌, ◌++◌, length, map, Option, None}
use Rattle.flac_bits.specs.Handing.{InputReading}
use Rattle.flac_bits.specs.declared.source.Source as source
use Rattle.flac_bits.specs.declared.target.Target as target
use Rattle.flac_bits.specs.declared.why.Why.{Why}
use Rattle.flac_meta.specs.declared.block.Block.{Block}
use Rattle.flac_native.specs.Coming.{ReadAs}
use Rattle.flac_native.specs.Stream.{Piece, marked, block, framed, raised}
use Rattle.flac_native.specs.declared.fault.Place.{Place}
use Rattle.flac_edit.specs.BlockEdits.{is_named}
use Rattle.flac_json.specs.Json.{no_members}
use Rattle.flac_json.specs.Lines.{Numbered, file_line}
use Rattle.flac_jobs.specs.declared.editings.BlockName.{BlockName}
use Rattle.flac_cli.specs.Editing.{removal_of}
use Rattle.flac_cli.specs.Calls.{Passed, old_of, new_of, HasTold, HasServed, IfServed}
use Rattle.flac_cli.specs.Headed.{HeadReport, is_last, has_last, any_reading}
use Rattle.flac_cli.specs.Outcomes.{reason_text}
use Rattle.flac_cli.specs.Reports.{fault_line}
use Rattle.flac_cli.specs.Streams.{SendsOfStream, profile_of}
use Rattle.flac_cli.specs.declared.chosen.ListedFile.{ListedFile}

-- ---- which blocks are listed

-- one of the names means the block of this number, as in an edit; without names each block is listed
abbrev pub is_chosen : List BlockName → (number : ℕ) → Block → Bool
is_chosen names number b = nat_eq (length names) 0 || is_named (map removal_of names) number b

abbrev pub numbered : (number : ℕ) → Block → Numbered
numbered number b = record { index = number; block = b }

-- The chosen blocks among these parts, in their order, each with its number, which stops at 2^64 - 1; the first block
-- has this one.
abbrev pub chosen_from : List BlockName → (number : ℕ) → List Piece → List Numbered
chosen_from names number [] = []
chosen_from names number (marked ∷ xs) = chosen_from names number xs
chosen_from names number (block last b ∷ xs) = cond (is_chosen names number b) (numbered number b ∷ chosen_from names (raised number) xs) (chosen_from names (raised number) xs)
chosen_from names number (framed f ∷ xs) = chosen_from names number xs

-- the line of a file of these parts: its path, and the chosen blocks
abbrev pub listed_line : ListedFile → List Piece → List ℕ
listed_line file parts = file_line file.path.now None (chosen_from file.names.now 0 parts) no_members

-- ---- the blocks alone

-- the parts up to the first block that is marked as the last (RFC 9639, section 8.1)
abbrev pub head_of : List Piece → List Piece
head_of [] = []
head_of (x ∷ xs) = x ∷ cond (is_last x) [] (head_of xs)

-- As what this input is read, as a stream or up to its refusal: the last block is among its parts, and this holds of
-- the parts up to it. An input is read in one way.
abbrev pub HasHeadOf : InputReading Piece Place → (List Piece → Type 0) → Type 0
HasHeadOf r Says = (parts : List Piece) (end : Option (Place × Why)) → ReadAs r parts end → (has_last parts ≡ true) × Says (head_of parts)

-- ---- what is printed, if the bytes of the source and of the target are known

-- the input begins with a marker and blocks up to a last one, and exactly the line of these was sent
abbrev pub PrintsHead : {S T : Type 0} (g : source.Ghosts S) (h : target.Ghosts T) → ListedFile → (from : S) (old new : T) → Type 0
PrintsHead g h file from old new = g.known from ≡ true → h.known old ≡ true → HasHeadOf (any_reading g from) (λ head. h.sent new ≡ h.sent old ++ listed_line file head)

-- if the source did not fail, either: the input is a stream, and exactly the line of its blocks was sent
abbrev pub PrintsBlocks : {S T : Type 0} (g : source.Ghosts S) (h : target.Ghosts T) → (lax : Bool) → ListedFile → (from to : S) (old new : T) → Type 0
PrintsBlocks g h lax file from to old new = SendsOfStream g h (profile_of lax) (listed_line file) from to old new

-- ---- refusals

-- the line of a reason of this file was added, maybe with a place
abbrev pub IsReasonOf : (path : List ℕ) → (before after : List ℕ) → Type 0
IsReasonOf path before after = (at : Option Place) × (reason : Why) × (after ≡ before ++ fault_line path (reason_text at reason))

-- If no device failed: the line of the refusal before the last block was added, or it says that memory ran out.
abbrev pub RefusesHead : {S T E : Type 0} (g : source.Ghosts S) (h : target.Ghosts T) (k : target.Ghosts E) → (path : List ℕ) → Passed S → Passed T → Passed E → Type 0
RefusesHead g h k path source out err = HasTold g source → HasServed h out → IfServed k (old_of err) (new_of err) (HeadReport (any_reading g (old_of source)) path)

-- nothing was added
abbrev pub IsSame : (before after : List ℕ) → Type 0
IsSame before after = after ≡ before
