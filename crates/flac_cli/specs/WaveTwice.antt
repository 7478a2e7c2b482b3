-- Encodings of WAV files that are read twice: surveyed first, and then encoded block by block.
use Rattle.std.specs.Prelude.{◌≡◌, ◌≢◌, ◌⊎◌, ℕ, Bool, true, false, List, codes, Option, Some, None}
use Rattle.flac_bits.specs.Bits.{bits_of}
use Rattle.flac_bits.specs.declared.source.Source as source
use Rattle.flac_bits.specs.declared.target.Target as target
use Rattle.flac_native.specs.declared.fault.EncodeFault.TheVariants as encode
use Rattle.flac_encoder.specs.Pushing.{Fails}
use Rattle.flac_cli.specs.Asked.{Asked}
use Rattle.flac_cli.specs.Calls.{IfRead}
use Rattle.flac_cli.specs.Reports.{Files, files_of, AddsLine}
use Rattle.flac_cli.specs.WaveRefusals.{IsWaveReason, IsOutside, wave_path, wave_text}
use Rattle.flac_cli.specs.Waves.{wave_asked_by, HasEncodedWave}
use Rattle.flac_cli.specs.declared.dispatch.Task.{Task}
use Rattle.flac_cli.specs.declared.encode.Refusal.TheVariants.{Output}
use Rattle.flac_cli.specs.declared.encode_wave.WaveRefusal.{WaveRefusal}
use Rattle.flac_cli.specs.declared.encode_wave.WaveRefusal.TheVariants.{Refused}
use Rattle.flac_cli.specs.declared.encode_wave_twice.WaveTwiceFault.{WaveTwiceFault}
use Rattle.flac_jobs.specs.declared.jobs.Job.{Job}
use Rattle.flac_jobs.specs.declared.jobs.Job.TheVariants as job

-- ---- which jobs

-- the job encodes a WAV file
abbrev pub is_wave_twice : Job → Bool
is_wave_twice (job.EncodeWave input output size seek_every c comments lax predictors effort keep to_end) = true
is_wave_twice other = false

-- ---- what is written

-- What a job asks for whose two sources have these bytes was sent to the target, if the bytes of all three are known:
-- the stream of the WAV file that they are, of which the file comes back if it is kept.
abbrev pub WritesWaveTwice : {S T U : Type 0} (g : source.Ghosts S) (h : source.Ghosts T) (k : target.Ghosts U) → Task → (first : S) (second : T) (old new : U) → Type 0
WritesWaveTwice g h k task first second old new =
    g.known first ≡ true → h.known second ≡ true → k.known old ≡ true → h.coming second ≡ g.coming first
    → HasEncodedWave (wave_asked_by task) (g.coming first) (bits_of (k.sent old)) (bits_of (k.sent new))

-- ---- why it fails

-- This is why an encoding of these bytes stops, if `others` came the second time: they are not the same; or memory ran out,
-- or the target failed; or the first reason to refuse the bytes.
abbrev pub IsWaveTwiceReason : Asked → (bytes others : List ℕ) → Option WaveRefusal → Type 0
IsWaveTwiceReason asked bytes others None = others ≢ bytes
IsWaveTwiceReason asked bytes others (Some e) = IsOutside e ⊎ IsWaveReason asked bytes (Some e)

-- the same, if the job is such an encoding
abbrev pub RefusesWaveTwice : Option Asked → (bytes others : List ℕ) → Option WaveRefusal → Type 0
RefusesWaveTwice (Some asked) bytes others reason = IsWaveTwiceReason asked bytes others reason
RefusesWaveTwice None bytes others reason = Unit {0}

-- the same of two sources, `old` and `from` before the call, if their bytes are known and neither returned an error
abbrev pub StopsWaveTwice : {S T : Type 0} (g : source.Ghosts S) (h : source.Ghosts T) → Task → (old new : S) (from to : T) → WaveTwiceFault → Type 0
StopsWaveTwice g h task old new from to fault = IfRead g old new (λ bytes. IfRead h from to (λ others. RefusesWaveTwice (wave_asked_by task) bytes others fault.reason))

-- with 39 the target returned an error, which is counted
abbrev pub FailsWaveTwice : {S : Type 0} (g : target.Ghosts S) (old : S) → WaveTwiceFault → Type 0
FailsWaveTwice {S} g old fault = fault.reason ≡ Some (Refused (Output encode.Write)) → (left : S) × Fails g old left

-- ---- what is reported

-- the path of the file at fault, and the reason as it is printed
abbrev pub wave_twice_path : Files → Option WaveRefusal → List ℕ
wave_twice_path files None = files.input
wave_twice_path files (Some e) = wave_path files e

abbrev pub wave_twice_text : Option WaveRefusal → List ℕ
wave_twice_text None = codes "94 Changed"
wave_twice_text (Some e) = wave_text e

-- its line was added
abbrev pub AddsWaveTwiceLine : Job → WaveTwiceFault → (before after : List ℕ) → Type 0
AddsWaveTwiceLine j fault before after = AddsLine (wave_twice_path (files_of j) fault.reason) (wave_twice_text fault.reason) before after
