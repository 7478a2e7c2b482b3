-- For proofs of the reports: the place of a refusal, and that what a call returned is what the bytes of its source are.
use Rattle.std.specs.Prelude.{ℕ, List, Option, Some, Result}
use denote.Bor.{Bor}
use Rattle.flac_bits.specs.Handing.{outcome_of}
use Rattle.flac_bits.specs.declared.source.Source as source
use Rattle.flac_bits.specs.declared.target.Target as target
use Rattle.flac_bits.specs.declared.why.Why.{Why}
use Rattle.flac_header.specs.declared.subset.Profile.{Profile}
use Rattle.flac_native.specs.declared.fault.Fault.{Fault}
use Rattle.flac_native.specs.declared.fault.Place.{Place}
use Rattle.flac_native.specs.declared.retagging.RetagFault.{RetagFault}
use Rattle.flac_cli.specs.Asked.{texts_of}
use Rattle.flac_cli.specs.Reports.{Serves}
use Rattle.flac_cli.specs.Streams.{Tells}
use Rattle.flac_cli.specs.declared.lines.Lines.{Lines}
use Rattle.flac_cli.specs.declared.report.Paths.{Paths}
use Rattle.flac_cli.specs.Calls.{Passed, IfAllServe}
use Rattle.flac_cli.specs.Outcomes.{Fits, Reads, IsRetagged, IsOutOfMemory, IsRetagOutOfMemory, IsUnlisted, ReportsRetagging}

-- the outcomes of calls
abbrev pub at_place : Fault → Option Place × Why
at_place fault = (Some fault.at, fault.why)

abbrev pub at_some_place : RetagFault → Option Place × Why
at_some_place fault = (fault.at, fault.why)

-- what a call that reads the stream of a source returned
abbrev pub FitsStream : {S X : Type 0} (g : source.Ghosts S) → Profile → S → Result X Fault → Type 0
FitsStream g profile from result = Fits IsOutOfMemory (Reads profile (g.coming from) (g.after from)) (outcome_of at_place result)

-- what one that lists its blocks returned, which `printed` says could be
abbrev pub FitsListing : {S X : Type 0} (g : source.Ghosts S) → (printed : Type 0) → Profile → S → Result X Fault → Type 0
FitsListing g printed profile from result = Fits (IsUnlisted printed) (Reads profile (g.coming from) (g.after from)) (outcome_of at_place result)

-- what one that gives it these words as comments returned
abbrev pub FitsRetagging : {S X : Type 0} (g : source.Ghosts S) → (words : List (List ℕ)) → S → Result X RetagFault → Type 0
FitsRetagging g words from result = Fits IsRetagOutOfMemory (IsRetagged words (g.coming from) (g.after from)) (outcome_of at_some_place result)

-- ---- the same, if the source and the target did not fail

abbrev pub ReturnsStream : {S T X : Type 0} (g : source.Ghosts S) (h : target.Ghosts T) → Profile → (from to : S) (old new : T) → Result X Fault → Type 0
ReturnsStream g h profile from to old new result = Tells g from to → Serves h old new → FitsStream g profile from result

abbrev pub ReturnsRetagging : {S T X : Type 0} (g : source.Ghosts S) (h : target.Ghosts T) → (words : List (Bor (List ℕ))) → (from to : S) (old new : T) → Result X RetagFault → Type 0
ReturnsRetagging g h words from to old new result = Tells g from to → Serves h old new → FitsRetagging g (texts_of words) from result

-- a listing says more if the target did not fail, and something if it did
abbrev pub ReturnsListing : {S T X : Type 0} (g : source.Ghosts S) (h : target.Ghosts T) → Profile → (from to : S) (old new : T) → Result X Fault → Type 0
ReturnsListing g h profile from to old new result = Tells g from to → FitsListing g (Serves h old new) profile from result

-- the same by way of a buffer of lines
abbrev pub ReturnsLines : {S T X : Type 0} {h : target.Ghosts T} (g : source.Ghosts S) → Profile → (from to : S) (old new : Lines T h) → Result X Fault → Type 0
ReturnsLines {h = h} g profile from to old new result = ReturnsListing g h profile from to old.target new.target result

-- what is reported of one that gives these words as comments, if no device failed
abbrev pub ReportsRetag : {S T E : Type 0} (g : source.Ghosts S) (h : target.Ghosts T) (k : target.Ghosts E) → (words : List (Bor (List ℕ))) → Paths → (status : ℕ) → Passed S → Passed T → Passed E → Type 0
ReportsRetag g h k words paths status source target err = IfAllServe g h k source target err (ReportsRetagging (texts_of words) paths.input.now status)

-- ---- which file a line names

-- of the two paths of a job
abbrev pub ForPaths : (Names : (input output : List ℕ) → (before after : List ℕ) → Type 0) → Paths → (before after : List ℕ) → Type 0
ForPaths Names paths before after = Names paths.input.now paths.output.now before after
