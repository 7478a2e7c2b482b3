-- What a call that reads a line says of the sheet so far.
use Rattle.std.specs.Prelude.{◌≡◌, ℕ, List, Result, Ok, Err, MatchResult}
use Rattle.flac_meta.specs.declared.cue_sheet.CueSheet.{CueSheet}
use Rattle.flac_meta.specs.declared.cue_sheet.CueTrack.{CueTrack}
use Rattle.flac_cue.specs.declared.fault.CueWhy.{CueWhy}
use Rattle.flac_cue.specs.declared.fault.CueFault.{CueFault}
use Rattle.flac_cue.specs.declared.fault.CueFault.TheVariants as fault
use Rattle.flac_cue.specs.declared.open.Open.{Open}
use Rattle.flac_cue.specs.declared.fault.Wrong.{Wrong}
use Rattle.flac_cue.specs.declared.fault.Wrong.TheVariants as wrong

abbrev pub IfRule : (CueWhy → Type 0) → Wrong → Type 0
IfRule P wrong.Memory = Unit {0}
IfRule P (wrong.Rule e) = P e

-- at `Ok` the sheet is what the definition says, else the rule that it says is broken
abbrev pub Takes : {X : Type 0} → Result X Wrong → Open → Result Open CueWhy → Type 0
Takes (Ok x) new r = r ≡ Ok new
Takes (Err e) new r = IfRule (λ y. r ≡ Err y) e

-- the same of a call that ends a track, and begins another one in its place
abbrev pub Closes : {X : Type 0} → Result X Wrong → (old new : Open) → CueTrack → Result (List CueTrack) CueWhy → Type 0
Closes (Ok x) old new next r = (tracks : List CueTrack) × (r ≡ Ok tracks) × (new ≡ record old { tracks = tracks; track = next })
Closes (Err e) old new next r = IfRule (λ y. r ≡ Err y) e

abbrev pub fault_at : (line : ℕ) → Wrong → CueFault
fault_at line wrong.Memory = fault.Memory
fault_at line (wrong.Rule e) = fault.Line line e

-- the sheet is this one, or a rule is broken, as the definition says
abbrev pub IsFinished : Result CueSheet CueWhy → Result CueSheet Wrong → Type 0
IsFinished due result = MatchResult result (λ sheet. due ≡ Ok sheet) (IfRule (λ why. due ≡ Err why))
