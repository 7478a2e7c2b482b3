-- What the program reports of an encoding.
use Rattle.std.specs.Prelude.{◌≡◌, ◌⊎◌, ℕ, true, List, ◌++◌, codes, Option, Some, None, unwrap_or}
use Rattle.flac_bits.specs.State.{After}
use Rattle.flac_bits.specs.declared.target.Target as target
use Rattle.flac_frame.specs.declared.setup.SetupFault.TheVariants as setup
use Rattle.flac_native.specs.declared.fault.EncodeFault.TheVariants as encode
use Rattle.flac_cli.specs.Asked.{Asked}
use Rattle.flac_cli.specs.Lined.{text_at}
use Rattle.flac_cli.specs.declared.lines.At.TheVariants as at
use Rattle.flac_cli.specs.Refusals.{IsReason, text_of}
use Rattle.flac_cli.specs.Encoded.{asked_by}
use Rattle.flac_cli.specs.declared.dispatch.Task.{Task}
use Rattle.flac_cli.specs.declared.encode.Refusal.{Refusal}
use Rattle.flac_cli.specs.declared.encode.Refusal.TheVariants.{Setup, Line, Output}
use Rattle.flac_jobs.specs.declared.jobs.Job.{Job}
use Rattle.flac_jobs.specs.Asks.{input_of, output_of, list_of}

-- the line of a fault, whose text is its number and its name, of the file of this path
abbrev pub fault_line : (path text : List ℕ) → List ℕ
fault_line path text = codes "flac: " ++ (path ++ (codes ": " ++ (text ++ codes "\n")))

-- exactly this line was added
abbrev pub AddsLine : (path text : List ℕ) → (before after : List ℕ) → Type 0
AddsLine path text before after = after ≡ before ++ fault_line path text

-- the paths of an encoding's files; that of the input in place of the list's if there is no list
pub record Files : Type 0 where
  pub input : List ℕ
  pub output : List ℕ
  pub list : List ℕ

-- the path of the file at fault: the list for what its predictors are, the output if it could not be written, and else
-- the input
abbrev pub path_of : Files → Refusal → List ℕ
path_of files (Line number) = files.list
path_of files (Setup setup.PredictorOrder) = files.list
path_of files (Setup setup.TooManyPredictors) = files.list
path_of files (Output encode.Write) = files.output
path_of files other = files.input

-- the reason as it is printed: after the number of its line, if it has one
abbrev pub line_text : Refusal → List ℕ
line_text (Line number) = text_at (at.Line number) (text_of (Line number))
line_text other = text_of other

-- the bytes of the target are known, and it returned no error in the call
abbrev pub Serves : {T : Type 0} (g : target.Ghosts T) (old new : T) → Type 0
Serves g old new = (g.known old ≡ true) × (g.errors new ≡ g.errors old)

-- The status, and what was added to standard error: 0 and nothing if there is no reason, else 1 and the line of the
-- reason.
abbrev pub IsAnswer : Option Refusal → Files → (status : ℕ) → (before after : List ℕ) → Type 0
IsAnswer None files status before after = (status ≡ 0) × (after ≡ before)
IsAnswer (Some e) files status before after = (status ≡ 1) × (after ≡ before ++ fault_line (path_of files e) (line_text e))

-- This is the report of the first reason for which these bytes cannot be encoded; or memory ran out: then the status is
-- 1, and the line says that.
abbrev pub IsReport : Asked → (bytes : List ℕ) → Files → (status : ℕ) → (before after : List ℕ) → Type 0
IsReport asked bytes files status before after =
    ((reason : Option Refusal) × IsReason asked bytes reason × IsAnswer reason files status before after)
    ⊎ ((status ≡ 1) × (after ≡ before ++ fault_line files.input (codes "2 Memory")))

-- the files of a job; the input's path in place of those that it does not have
abbrev pub files_of : Job → Files
files_of j = record { input = input_of j; output = unwrap_or (output_of j) (input_of j); list = unwrap_or (list_of j) (input_of j) }

-- this holds if the job is an encoding
abbrev pub Reports : Option Asked → (bytes : List ℕ) → Files → (status : ℕ) → (before after : List ℕ) → Type 0
Reports (Some asked) bytes files status before after = IsReport asked bytes files status before after
Reports None bytes files status before after = Unit {0}

-- the same of a task, in the order in which calls name it
abbrev pub ReportsTask : Task → (status : ℕ) → (bytes : List ℕ) → After → (before after : List ℕ) → Type 0
ReportsTask task status bytes follows before after = Reports (asked_by task) bytes (files_of task.job.now) status before after
