-- Which WAV files cannot be encoded as asked for, for which first reason, and what is reported of it.
use Rattle.std.specs.Prelude.{◌≡◌, ◌⊎◌, ℕ, List, ◌++◌, codes, Err, Option, Some, None, option_map}
use Rattle.std.specs.Option.{option_or}
use Rattle.flac_bits.specs.State.{After}
use Rattle.flac_bits.specs.declared.why.Why.TheVariants as why
use Rattle.flac_meta.specs.Listed.{list_fault, info_seen}
use Rattle.flac_meta.specs.declared.block.Block.{Block}
use Rattle.flac_subframe.specs.declared.format.linear.LinearPredictor.{LinearPredictor}
use Rattle.flac_native.specs.Given.{plan_fault}
use Rattle.flac_wave.specs.Reasons as wave
use Rattle.flac_wave.specs.Wave.{Parts, IsWave, IsNoWave, ArePiecesAfter}
use Rattle.flac_wave.specs.declared.waves.WaveError.{WaveError}
use Rattle.flac_wave.specs.declared.waves.WaveError.TheVariants as error
use Rattle.flac_wave.specs.declared.waves.WaveFault.{WaveFault}
use Rattle.flac_cli.specs.Asked.{Asked}
use Rattle.flac_cli.specs.Encoded.{cut_as}
use Rattle.flac_cli.specs.Lined.{text_at}
use Rattle.flac_cli.specs.Predictors.{predictors_in, AreListed}
use Rattle.flac_raw.specs.Raw.{raw_sound}
use Rattle.flac_cli.specs.Refusals.{raw_fault, stream_fault, IsOutside as IsOutsideOf}
use Rattle.flac_cli.specs.Reports.{Files, fault_line, path_of, line_text, files_of}
use Rattle.flac_cli.specs.Waves.{samples_for, blocks_for, asked_of_wave, wave_asked_by}
use Rattle.flac_cli.specs.declared.dispatch.Task.{Task}
use Rattle.flac_cli.specs.declared.encode.Refusal.{Refusal}
use Rattle.flac_cli.specs.declared.encode.Refusal.TheVariants as refusal
use Rattle.flac_cli.specs.declared.lines.At.{At}
use Rattle.flac_cli.specs.declared.lines.At.TheVariants as at
use Rattle.flac_cli.specs.declared.encode_wave.WaveRefusal.{WaveRefusal}
use Rattle.flac_cli.specs.declared.encode_wave.WaveRefusal.TheVariants.{Wave, Refused}

-- ---- reasons

-- The first reason for which these raw samples cannot be encoded as asked for with these predictors and blocks, if
-- there is one: the samples; how they are cut into blocks; the predictors; the blocks; the container.
unfoldable pub samples_refusal : Asked → List LinearPredictor → (list : List Block) → (raw : List ℕ) → Option Refusal
samples_refusal asked ps list raw =
    option_or (raw_fault asked.profile asked.format raw)
    (option_or (option_map refusal.Setup (plan_fault (cut_as asked (raw_sound asked.profile asked.format raw) ps)))
    (option_or (option_map refusal.Input (list_fault info_seen list))
    (option_map refusal.Output (stream_fault asked.container (cut_as asked (raw_sound asked.profile asked.format raw) ps) list))))

-- the same of the samples of a WAV file, with the blocks that keep it
abbrev pub file_refusal : Asked → List LinearPredictor → Parts → (after : List (List ℕ)) → Option Refusal
file_refusal asked ps file after =
    samples_refusal (asked_of_wave asked file) ps (blocks_for asked file.format (file.pieces ++ after)) (samples_for file)

-- This is the first reason, if there is one, if these are the predictors: why the bytes are no WAV file; else what
-- holds of the file's samples and pieces.
abbrev pub IsFileReason : Asked → List LinearPredictor → (bytes : List ℕ) → Option WaveRefusal → Type 0
IsFileReason asked ps bytes reason =
    ((fault : WaveFault) × IsNoWave asked.to_end bytes fault.chunk fault.why × (reason ≡ Some (Wave fault)))
    ⊎ ((file : Parts) × (after : List (List ℕ)) × IsWave asked.to_end bytes file × ArePiecesAfter file.samples file.back after × (reason ≡ option_map Refused (file_refusal asked ps file after)))

-- This is the first reason, if there is one: the first line of the list that is no predictor; else that.
abbrev pub IsWaveReason : Asked → (bytes : List ℕ) → Option WaveRefusal → Type 0
IsWaveReason asked bytes reason =
    ((number : ℕ) × (predictors_in asked.list ≡ Err number) × (reason ≡ Some (Refused (refusal.Line number))))
    ⊎ ((ps : List LinearPredictor) × AreListed asked.list ps × IsFileReason asked ps bytes reason)

-- why an encoding is refused whose file is
abbrev pub refusal_of_wave : WaveError → WaveRefusal
refusal_of_wave error.Memory = Refused (refusal.Input why.Memory)
refusal_of_wave error.Read = Refused (refusal.Input why.Read)
refusal_of_wave (error.Fault fault) = Wave fault

-- no fault of what was asked for: out of memory, or the target failed
abbrev pub IsOutside : WaveRefusal → Type 0
IsOutside e = (r : Refusal) × (e ≡ Refused r) × IsOutsideOf r

-- there is no such reason if the job is such an encoding
abbrev pub CanBeKept : Option Asked → (bytes : List ℕ) → Type 0
CanBeKept (Some asked) bytes = IsWaveReason asked bytes None
CanBeKept None bytes = Unit {0}

-- ---- reports

-- the place of a fault of a WAV file: the whole file, or a chunk, counted from 0
abbrev pub at_chunk : Option ℕ → At
at_chunk None = at.Whole
at_chunk (Some number) = at.Chunk number

-- the path of the file at fault, and the reason as it is printed
abbrev pub wave_path : Files → WaveRefusal → List ℕ
wave_path files (Wave fault) = files.input
wave_path files (Refused r) = path_of files r

abbrev pub wave_text : WaveRefusal → List ℕ
wave_text (Wave fault) = text_at (at_chunk fault.chunk) (wave.text_of fault.why)
wave_text (Refused r) = line_text r

-- The status, and what was added to standard error: 0 and nothing if there is no reason, else 1 and the line of the
-- reason.
abbrev pub IsRefusalAnswer : Option WaveRefusal → Files → (status : ℕ) → (before after : List ℕ) → Type 0
IsRefusalAnswer None files status before after = (status ≡ 0) × (after ≡ before)
IsRefusalAnswer (Some e) files status before after = (status ≡ 1) × (after ≡ before ++ fault_line (wave_path files e) (wave_text e))

-- This is the report of the first reason for which these bytes cannot be encoded; or memory ran out: then the status is
-- 1, and the line says that.
abbrev pub IsWaveReport : Asked → (bytes : List ℕ) → Files → (status : ℕ) → (before after : List ℕ) → Type 0
IsWaveReport asked bytes files status before after =
    ((reason : Option WaveRefusal) × IsWaveReason asked bytes reason × IsRefusalAnswer reason files status before after)
    ⊎ ((status ≡ 1) × (after ≡ before ++ fault_line files.input (codes "2 Memory")))

-- this holds if the job is such an encoding
abbrev pub ReportsWaveEncoding : Option Asked → (bytes : List ℕ) → Files → (status : ℕ) → (before after : List ℕ) → Type 0
ReportsWaveEncoding (Some asked) bytes files status before after = IsWaveReport asked bytes files status before after
ReportsWaveEncoding None bytes files status before after = Unit {0}

-- the same of a task, in the order in which calls name it
abbrev pub ReportsWaveTask : Task → (status : ℕ) → (bytes : List ℕ) → After → (before after : List ℕ) → Type 0
ReportsWaveTask task status bytes follows before after = ReportsWaveEncoding (wave_asked_by task) bytes (files_of task.job.now) status before after
