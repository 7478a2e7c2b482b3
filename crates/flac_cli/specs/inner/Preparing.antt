-- For the proof of encoding a WAV file: what is made of it before anything is written.
use Rattle.std.specs.Prelude.{◌≡◌, ◌⊎◌, ℕ, true, List, ◌++◌, Vec, option_map, Some, None, Result, IfErr}
use Rattle.std.specs.Global.{Global}
use Rattle.flac_bits.specs.declared.source.Source as source
use Rattle.flac_meta.specs.declared.block.Block.{Block}
use Rattle.flac_frame.specs.Audio.{Sound}
use Rattle.flac_subframe.specs.declared.format.linear.LinearPredictor.{LinearPredictor}
use Rattle.flac_native.specs.Given.{Cut, fits_plan, plan_fault}
use Rattle.flac_wave.specs.declared.format.WaveFormat.{WaveFormat}
use Rattle.flac_cli.specs.Asked.{Asked, asked_of}
use Rattle.flac_cli.specs.Calls.{IfRead}
use Rattle.flac_cli.specs.Encoded.{cut_as}
use Rattle.flac_cli.specs.Refusals.{stream_fault}
use Rattle.flac_cli.specs.WaveRefusals.{file_refusal, IsFileReason, IsWaveReason, IsOutside, IsWaveReport}
use Rattle.flac_cli.specs.Reports.{files_of}
use Rattle.flac_cli.specs.Waves.{Keeps, contents, blocks_for}
use Rattle.flac_cli.specs.inner.WaveSamples.{IsTaken}
use Rattle.flac_cli.specs.declared.encode.Encoding.{Encoding}
use Rattle.flac_cli.specs.declared.encode.Refusal.{Refusal}
use Rattle.flac_cli.specs.declared.encode.Refusal.TheVariants.{Output}
use Rattle.flac_cli.specs.declared.encode_wave.Ready.{Ready}
use Rattle.flac_cli.specs.declared.encode_wave.WaveRefusal.{WaveRefusal}
use Rattle.flac_cli.specs.declared.encode_wave.WaveRefusal.TheVariants.{Refused}
use Rattle.flac_cli.specs.declared.wave_file.WaveFile.{WaveFile}
use Rattle.flac_native.specs.declared.fault.EncodeFault.TheVariants as encode
use Rattle.flac_bits.specs.State.{After}
use Rattle.flac_jobs.specs.declared.formats.RawFormat.{RawFormat}
use Rattle.flac_jobs.specs.declared.jobs.Job.{Job}

-- These are the samples of a WAV file, how they are divided into frames, and the blocks that keep the file. Only the
-- container can be a reason to refuse them.
pub record IsReady (asked : Asked) (ps : List LinearPredictor) (bytes : List ℕ) (format : RawFormat) (plan : Cut) (list : List Block) (audio : Sound) : Type 0 where
  pub keeps : Keeps asked bytes format audio list
  pub cut : plan ≡ cut_as (record asked { format = format }) audio ps
  pub fits : fits_plan plan audio ≡ true
  pub good : plan_fault plan ≡ None
  pub refusal : file_refusal asked ps keeps.file keeps.pieces ≡ option_map Output (stream_fault asked.container plan list)

-- the blocks after STREAMINFO that are asked for, of the pieces before and after the samples
abbrev pub blocks_with : Encoding → WaveFormat → (before after : List (Vec ℕ Global)) → List Block
blocks_with encoding format before after = blocks_for (asked_of encoding) format (contents before ++ contents after)

-- ---- with these predictors

-- this is made of a WAV file of these bytes
abbrev pub IsReadyFor : Encoding → (ps : List LinearPredictor) → Ready → (bytes : List ℕ) → Type 0
IsReadyFor encoding ps r bytes = IsReady (asked_of encoding) ps bytes r.format r.plan r.list r.audio

-- the same of the bytes that this file is
abbrev pub IsReadyFile : Encoding → (ps : List LinearPredictor) → WaveFile → Ready → Type 0
IsReadyFile encoding ps file r = (bytes : List ℕ) → IsTaken encoding.to_end bytes file → IsReadyFor encoding ps r bytes

-- the first reason for which the bytes that this file is cannot be encoded; or out of memory, or the target failed
abbrev pub IsFileRefusal : Encoding → (ps : List LinearPredictor) → WaveFile → Refusal → Type 0
IsFileRefusal encoding ps file e = (bytes : List ℕ) → IsTaken encoding.to_end bytes file → IsOutside (Refused e) ⊎ IsFileReason (asked_of encoding) ps bytes (Some (Refused e))

-- an error: the same of the bytes of a source, if they are known and it returned no error
abbrev pub RefusesFile : {S X : Type 0} (g : source.Ghosts S) → Encoding → (ps : List LinearPredictor) → (from to : S) → Result X WaveRefusal → Type 0
RefusesFile g encoding ps from to result = IfErr result (λ e. IfRead g from to (λ bytes. IsOutside e ⊎ IsFileReason (asked_of encoding) ps bytes (Some e)))

-- ---- an encoding

-- there is no reason for which these bytes cannot be encoded
abbrev pub CanBeEncodedAs : Encoding → (bytes : List ℕ) → Type 0
CanBeEncodedAs encoding bytes = IsWaveReason (asked_of encoding) bytes None

-- an error: the first reason for which they cannot be, or out of memory, or the target failed
abbrev pub RefusesAsWave : {S X : Type 0} (g : source.Ghosts S) → Encoding → (from to : S) → Result X WaveRefusal → Type 0
RefusesAsWave g encoding from to result = IfErr result (λ e. IfRead g from to (λ bytes. IsOutside e ⊎ IsWaveReason (asked_of encoding) bytes (Some e)))

-- the target failed
abbrev pub not_written : WaveRefusal
not_written = Refused (Output encode.Write)

-- the report of an encoding, in the order in which calls name it
abbrev pub ReportsFile : Encoding → Job → (status : ℕ) → (bytes : List ℕ) → After → (before after : List ℕ) → Type 0
ReportsFile encoding job status bytes follows before after = IsWaveReport (asked_of encoding) bytes (files_of job) status before after
