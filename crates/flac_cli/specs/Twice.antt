-- Encodings of raw samples that are read twice: judged first, and then encoded block by block.
use Rattle.std.specs.Prelude.{◌≡◌, ◌≢◌, ◌⊎◌, ℕ, Bool, true, false, List, codes, Option, Some, None}
use Rattle.flac_bits.specs.declared.source.Source as source
use Rattle.flac_bits.specs.declared.target.Target as target
use Rattle.flac_native.specs.declared.fault.EncodeFault.TheVariants as encode
use Rattle.flac_encoder.specs.Pushing.{Fails}
use Rattle.flac_cli.specs.Asked.{Asked}
use Rattle.flac_cli.specs.Calls.{IfRead}
use Rattle.flac_cli.specs.Encoded.{asked_by}
use Rattle.flac_cli.specs.Refusals.{IsReason, IsOutside}
use Rattle.flac_cli.specs.Reports.{Files, files_of, path_of, line_text, AddsLine}
use Rattle.flac_cli.specs.declared.dispatch.Task.{Task}
use Rattle.flac_cli.specs.declared.encode.Refusal.{Refusal}
use Rattle.flac_cli.specs.declared.encode.Refusal.TheVariants.{Output}
use Rattle.flac_cli.specs.declared.encode_twice.TwiceFault.{TwiceFault}
use Rattle.flac_jobs.specs.declared.jobs.Job.{Job}
use Rattle.flac_jobs.specs.declared.jobs.Job.TheVariants as job

-- ---- which jobs

-- the job encodes raw samples
abbrev pub is_twice : Job → Bool
is_twice (job.Encode input output format c comments lax predictors effort raw) = true
is_twice other = false

-- ---- why it fails

-- This is why an encoding of these bytes stops, if `others` came the second time: they are not the same; or memory ran out,
-- or the target failed; or the first reason to refuse the bytes.
abbrev pub IsTwiceReason : Asked → (bytes others : List ℕ) → Option Refusal → Type 0
IsTwiceReason asked bytes others None = others ≢ bytes
IsTwiceReason asked bytes others (Some r) = IsOutside r ⊎ IsReason asked bytes (Some r)

-- the same, if the job is an encoding
abbrev pub RefusesTwice : Option Asked → (bytes others : List ℕ) → Option Refusal → Type 0
RefusesTwice (Some asked) bytes others reason = IsTwiceReason asked bytes others reason
RefusesTwice None bytes others reason = Unit {0}

-- the same of two sources, `old` and `from` before the call, if their bytes are known and neither returned an error
abbrev pub StopsTwice : {S T : Type 0} (g : source.Ghosts S) (h : source.Ghosts T) → Task → (old new : S) (from to : T) → TwiceFault → Type 0
StopsTwice g h task old new from to fault = IfRead g old new (λ bytes. IfRead h from to (λ others. RefusesTwice (asked_by task) bytes others fault.reason))

-- with 39 the target returned an error, which is counted
abbrev pub FailsTwice : {S : Type 0} (g : target.Ghosts S) (old : S) → TwiceFault → Type 0
FailsTwice {S} g old fault = fault.reason ≡ Some (Output encode.Write) → (left : S) × Fails g old left

-- ---- what is reported

-- the path of the file at fault, and the reason as it is printed
abbrev pub twice_path : Files → Option Refusal → List ℕ
twice_path files None = files.input
twice_path files (Some r) = path_of files r

abbrev pub twice_text : Option Refusal → List ℕ
twice_text None = codes "94 Changed"
twice_text (Some r) = line_text r

-- its line was added
abbrev pub AddsTwiceLine : Job → TwiceFault → (before after : List ℕ) → Type 0
AddsTwiceLine j fault before after = AddsLine (twice_path (files_of j) fault.reason) (twice_text fault.reason) before after
