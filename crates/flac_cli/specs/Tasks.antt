-- What a task has done, by its exit status. Each holds if the job is such a one, and if the bytes of the source and of
-- the target are known.
use Rattle.std.specs.Prelude.{◌≡◌, ℕ}
use Rattle.flac_bits.specs.declared.source.Source as source
use Rattle.flac_bits.specs.declared.target.Target as target
use Rattle.flac_jobs.specs.Asks.{AsksDecode, AsksDecodeWave, AsksStream}
use Rattle.flac_cli.specs.Calls.{Passed, HasServed, IfBothServe, HasWritten}
use Rattle.flac_cli.specs.Counted.{AsksTest, SendsCounts}
use Rattle.flac_cli.specs.Encoded.{asked_by, HasEncoded, HasBegun}
use Rattle.flac_cli.specs.Outcomes.{SendsWave, ReportsJob}
use Rattle.flac_cli.specs.Retagged.{HasRetagged}
use Rattle.flac_cli.specs.Samples.{SendsSamples}
use Rattle.flac_cli.specs.Streams.{Tells, profile_for, GivesStream}
use Rattle.flac_cli.specs.Waves.{wave_asked_by, HasEncodedWave, HasBegunWave}
use Rattle.flac_cli.specs.declared.dispatch.Task.{Task}

-- ---- reading a stream, if the source did not fail

-- a test, a decoding or a listing has status 0 only if the source gives a stream
abbrev pub NeedsStream : {S : Type 0} (g : source.Ghosts S) → Task → (status : ℕ) → (from to : S) → Type 0
NeedsStream g task status from to = AsksStream task.job.now → status ≡ 0 → Tells g from to → GivesStream g (profile_for task.job.now) from

-- a test with status 0 has sent exactly the line of the stream's counts
abbrev pub PrintsCounts : {S T : Type 0} (g : source.Ghosts S) (h : target.Ghosts T) → Task → (status : ℕ) → (from to : S) (old new : T) → Type 0
PrintsCounts g h task status from to old new = AsksTest task.job.now → status ≡ 0 → SendsCounts g h (profile_for task.job.now) from to old new

-- a decoding to raw samples with status 0 has sent exactly the samples of the stream's frames
abbrev pub WritesSamples : {S T : Type 0} (g : source.Ghosts S) (h : target.Ghosts T) → Task → (status : ℕ) → (from to : S) (old new : T) → Type 0
WritesSamples g h task status from to old new = AsksDecode task.job.now → status ≡ 0 → SendsSamples g h (profile_for task.job.now) from to old new

-- a decoding to a WAV file with status 0 has sent exactly the WAV file of the stream
abbrev pub WritesWave : {S T : Type 0} (g : source.Ghosts S) (h : target.Ghosts T) → Task → (status : ℕ) → (from to : S) (old new : T) → Type 0
WritesWave g h task status from to old new = AsksDecodeWave task.job.now → status ≡ 0 → SendsWave g h (profile_for task.job.now) from to old new

-- ---- writing a stream

-- an encoding of raw samples has written the stream that it asks for
abbrev pub WritesEncoded : {S T : Type 0} (g : source.Ghosts S) (h : target.Ghosts T) → Task → (from : S) (old new : T) → Type 0
WritesEncoded g h task from old new = HasWritten g h from old new (HasEncoded (asked_by task))

-- it has written nothing, or a prefix of such a stream
abbrev pub BeginsEncoded : {S T : Type 0} (g : source.Ghosts S) (h : target.Ghosts T) → Task → (from : S) (old new : T) → Type 0
BeginsEncoded g h task from old new = HasWritten g h from old new (HasBegun (asked_by task))

-- an encoding of a WAV file has written the stream that it asks for
abbrev pub WritesEncodedWave : {S T : Type 0} (g : source.Ghosts S) (h : target.Ghosts T) → Task → (from : S) (old new : T) → Type 0
WritesEncodedWave g h task from old new = HasWritten g h from old new (HasEncodedWave (wave_asked_by task))

-- it has written nothing, or a prefix of such a stream
abbrev pub BeginsEncodedWave : {S T : Type 0} (g : source.Ghosts S) (h : target.Ghosts T) → Task → (from : S) (old new : T) → Type 0
BeginsEncodedWave g h task from old new = HasWritten g h from old new (HasBegunWave (wave_asked_by task))

-- a retagging has written the stream with the comments that it asks for
abbrev pub WritesRetagged : {S T : Type 0} (g : source.Ghosts S) (h : target.Ghosts T) → Task → (from : S) (old new : T) → Type 0
WritesRetagged g h task from old new = HasWritten g h from old new (λ bytes. HasRetagged task.job.now bytes (g.after from))

-- ---- what is reported

-- of a job that reads a stream, if neither the source nor standard error failed: `h` is that of the type of the target,
-- `o` that of the type of standard output
abbrev pub ReportsReading : {S T O E : Type 0} (g : source.Ghosts S) (h : target.Ghosts T) (o : target.Ghosts O) (k : target.Ghosts E) → Task → (status : ℕ) → Passed S → Passed T → Passed O → Passed E → Type 0
ReportsReading g h o k task status source target out err = IfBothServe g k source err (ReportsJob task.job.now (HasServed h target) (HasServed o out) status)
