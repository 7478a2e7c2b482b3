-- For proofs of the reports of decoding to a WAV file: what a call returned.
use Rattle.std.specs.Prelude.{◌≡◌, ◌≢◌, ◌<◌, ℕ, Bool, true, false, Some, None, Result, Ok, Err, IfErr}
use Rattle.flac_bits.specs.declared.source.Source as source
use Rattle.flac_bits.specs.declared.target.Target as target
use Rattle.flac_bits.specs.declared.why.Why.{Why}
use Rattle.flac_bits.specs.declared.why.Why.TheVariants as why
use Rattle.flac_header.specs.declared.subset.Profile.{Profile}
use Rattle.flac_native.specs.declared.fault.Fault.{Fault}
use Rattle.flac_cli.specs.Outcomes.{WaveOutcome, streamed, unkept, Fits, ReadsWave, IsWaveOutOfMemory, HasSentOfReading}
use Rattle.flac_cli.specs.Reports.{Serves}
use Rattle.flac_cli.specs.Streams.{Tells}
use Rattle.flac_cli.specs.Waves.{wave_in}
use Rattle.flac_cli.specs.declared.decode_wave.WaveFailure.{WaveFailure}
use Rattle.flac_cli.specs.declared.decode_wave.WaveFailure.TheVariants as failure

-- of a sink that failed since an allocation did
abbrev pub memory_by : Why → Why
memory_by why.Sink = why.Memory
memory_by w = w

abbrev pub fault_by : (short : Bool) → Fault → Fault
fault_by true f = record { at = f.at; why = memory_by f.why }
fault_by false f = f

abbrev pub outcome_of_failure : WaveFailure → WaveOutcome
outcome_of_failure (failure.Stream f) = streamed (Some (Some f.at, f.why))
outcome_of_failure (failure.Kept k) = unkept k
outcome_of_failure failure.Write = streamed (Some (None, why.Write))

abbrev pub wave_outcome : {X : Type 0} → Result X WaveFailure → WaveOutcome
wave_outcome (Ok x) = streamed None
wave_outcome (Err e) = outcome_of_failure e

-- the output is not at fault
abbrev pub IsOfInput : WaveFailure → Type 0
IsOfInput (failure.Stream f) = f.why ≢ why.Sink
IsOfInput (failure.Kept k) = Unit {0}
IsOfInput failure.Write = ⊥

-- what a call that decodes the stream of a source to a WAV file returned is what the bytes are
abbrev pub FitsWave : {S X : Type 0} (g : source.Ghosts S) → Profile → S → Result X WaveFailure → Type 0
FitsWave g profile from result = Fits IsWaveOutOfMemory (ReadsWave profile (g.coming from) (g.after from)) (wave_outcome result)

-- the same, if the source and the target did not fail
abbrev pub ReturnsWave : {S T X : Type 0} (g : source.Ghosts S) (h : target.Ghosts T) → Profile → (from to : S) (old new : T) → Result X WaveFailure → Type 0
ReturnsWave g h profile from to old new result = Tells g from to → Serves h old new → FitsWave g profile from result

-- then the output is not at fault
abbrev pub FailsByInput : {S T X : Type 0} (g : source.Ghosts S) (h : target.Ghosts T) → (from to : S) (old new : T) → Result X WaveFailure → Type 0
FailsByInput g h from to old new result = Tells g from to → Serves h old new → IfErr result IsOfInput

-- if it returned Ok, exactly the WAV file of the stream was sent
abbrev pub HasSentWave : {S T X E : Type 0} (g : source.Ghosts S) (h : target.Ghosts T) → Profile → (from to : S) (old new : T) → Result X E → Type 0
HasSentWave g h profile from to old new result = HasSentOfReading g h profile wave_in from to old new result

-- each of these failures is an error of the target, unless an allocation failed
abbrev pub FailedUnless : {T : Type 0} → target.Ghosts T → (short : Bool) → (failures : ℕ) → (old new : T) → Type 0
FailedUnless h short failures old new = h.known old ≡ true → 0 < failures → short ≡ false → h.errors old < h.errors new
