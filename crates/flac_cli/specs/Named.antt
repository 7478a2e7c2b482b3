-- Which file the line of a job that failed names, also if a device failed.
use Rattle.std.specs.Prelude.{◌≡◌, ◌⊎◌, ℕ, List, ◌++◌, Some, None}
use Rattle.flac_bits.specs.declared.why.Why.{Why}
use Rattle.flac_bits.specs.declared.why.Why.TheVariants as why
use Rattle.flac_native.specs.Retag.{not_written}
use Rattle.flac_native.specs.declared.fault.Place.{Place}
use Rattle.flac_native.specs.declared.retagging.RetagFault.{RetagFault}
use Rattle.flac_cli.specs.Outcomes.{reason_text, text_of_kept}
use Rattle.flac_cli.specs.Reports.{Files, fault_line, path_of, line_text, files_of}
use Rattle.flac_cli.specs.WaveRefusals.{wave_path, wave_text}
use Rattle.flac_cli.specs.declared.encode.Refusal.{Refusal}
use Rattle.flac_cli.specs.declared.held_wave.KeptFault.{KeptFault}
use Rattle.flac_cli.specs.declared.encode_wave.WaveRefusal.{WaveRefusal}
use Rattle.flac_jobs.specs.declared.jobs.Job.{Job}
use Rattle.flac_jobs.specs.declared.jobs.Job.TheVariants as job

-- The line with this text was added. It names the output if that could not be written, and else the input.
pub record Names (unwritten : Type 0) (input output text : List ℕ) (before after : List ℕ) : Type 0 where
  pub path : List ℕ
  pub of_output : unwritten → path ≡ output
  pub of_input : (unwritten → ⊥) → path ≡ input
  pub line : after ≡ before ++ fault_line path text

-- the line of a decoding: the output could not be written if its reason is 30
abbrev pub NamesDecoding : (input output : List ℕ) → (before after : List ℕ) → Type 0
NamesDecoding input output before after = (at : Place) × (reason : Why) × Names (reason ≡ why.Sink) input output (reason_text (Some at) reason) before after

-- the line of a retagging: the output could not be written if its reason is 39, without a place
abbrev pub NamesRetagging : (input output : List ℕ) → (before after : List ℕ) → Type 0
NamesRetagging input output before after = (fault : RetagFault) × Names (fault ≡ not_written) input output (reason_text fault.at fault.why) before after

-- the line of a decoding to a WAV file: that of a decoding; or why there is no file of its samples, of the input;
-- or that the file could not be ended, of the output
abbrev pub NamesWaveDecoding : (input output : List ℕ) → (before after : List ℕ) → Type 0
NamesWaveDecoding input output before after =
    NamesDecoding input output before after
    ⊎ (((fault : KeptFault) × (after ≡ before ++ fault_line input (text_of_kept fault)))
    ⊎ (after ≡ before ++ fault_line output (reason_text None why.Write)))

-- the line of an encoding of a WAV file, of the file at fault
abbrev pub NamesWaveEncoding : Files → (before after : List ℕ) → Type 0
NamesWaveEncoding files before after = (e : WaveRefusal) × (after ≡ before ++ fault_line (wave_path files e) (wave_text e))

-- The line of a job that writes a file: 30 of a decoding, and 39 of each such job, name the output. The other lines of
-- an encoding name the file that is at fault.
abbrev pub NamesFault : Job → (before after : List ℕ) → Type 0
NamesFault (job.Decode input output lax) before after = NamesDecoding input.now output.now before after
NamesFault (job.Encode input output format c comments lax predictors effort raw) before after =
    (e : Refusal) × (after ≡ before ++ fault_line (path_of (files_of (job.Encode input output format c comments lax predictors effort raw)) e) (line_text e))
NamesFault (job.DecodeWave input output lax) before after = NamesWaveDecoding input.now output.now before after
NamesFault (job.EncodeWave input output block seek_every c comments lax predictors effort keep to_end) before after =
    NamesWaveEncoding (files_of (job.EncodeWave input output block seek_every c comments lax predictors effort keep to_end)) before after
NamesFault (job.Retag input output comments) before after = NamesRetagging input.now output.now before after
NamesFault other before after = Unit {0}
