-- For proofs of encodings of WAV files that are read twice.
use Rattle.std.specs.Prelude.{◌≡◌, ◌≢◌, ◌⊎◌, ◌<◌, ◌≤◌, ◌*◌, ◌^◌, ◌++◌, ℕ, Bool, true, List, Vec, Option, Some, None, option_map, cond, nat_eq}
use Rattle.std.specs.Global.{Global}
use Rattle.flac_bits.specs.Bits.{bits_of}
use Rattle.flac_bits.specs.declared.source.Source as source
use Rattle.flac_bits.specs.declared.target.Target as target
use Rattle.flac_subframe.specs.declared.format.linear.LinearPredictor.{LinearPredictor}
use Rattle.flac_frame.specs.declared.setup.SetupFault.{SetupFault}
use Rattle.flac_frame.specs.declared.setup.SetupFault.TheVariants.{TooLong}
use Rattle.flac_native.specs.Given.{plan_fault}
use Rattle.flac_native.specs.declared.fault.EncodeFault.{EncodeFault}
use Rattle.flac_wave.specs.Parts.{given}
use Rattle.flac_wave.specs.Shift.{wave_width_of, AreBytes}
use Rattle.flac_wave.specs.Wave.{Parts, IsWave, ArePiecesAfter, all_of}
use Rattle.flac_raw.specs.Encoded.{EncodesByIn, ArePlanned, container_fault, StopsByIn}
use Rattle.flac_raw.specs.Faults.{AreSamples, format_fault}
use Rattle.flac_raw.specs.Planned.{Planned, planned, raw_cut}
use Rattle.flac_raw.specs.declared.raw_fault.RawEncodeFault.{RawEncodeFault}
use Rattle.flac_cli.specs.Asked.{Asked, asked_of}
use Rattle.flac_cli.specs.Calls.{IfRead}
use Rattle.flac_cli.specs.WaveRefusals.{file_refusal, IsFileReason, IsOutside}
use Rattle.flac_cli.specs.Waves.{stream_samples, samples_for, depth_for, format_as, blocks_for, contents, EncodesWave}
use Rattle.flac_cli.specs.WaveTwice.{IsWaveTwiceReason}
use Rattle.flac_cli.specs.declared.encode.Encoding.{Encoding}
use Rattle.flac_cli.specs.declared.encode.Refusal.{Refusal}
use Rattle.flac_cli.specs.declared.encode.Refusal.TheVariants.{Output}
use Rattle.flac_cli.specs.declared.encode_wave.WaveRefusal.{WaveRefusal}
use Rattle.flac_cli.specs.declared.encode_wave.WaveRefusal.TheVariants.{Refused}
use Rattle.flac_cli.specs.declared.encode_wave_twice.StreamPlan.{StreamPlan}
use Rattle.flac_cli.specs.declared.encode_wave_twice.WavePlan.{WavePlan}
use Rattle.flac_cli.specs.declared.encode_wave_twice.WaveTwiceFault.{WaveTwiceFault}
use Rattle.flac_cli.specs.declared.wave_survey.WaveSurvey.{WaveSurvey}
use Rattle.flac_jobs.specs.declared.formats.RawFormat.{RawFormat}
use Rattle.flac_cli.specs.inner.Searching.{search_of}
use Rattle.flac_cli.specs.inner.Twice.{reason_as}
use Rattle.flac_cli.specs.inner.WaveSurvey.{IsSurveyed}

-- ---- errors

abbrev pub as_wave_twice : WaveRefusal → WaveTwiceFault
as_wave_twice e = record { reason = Some e }

-- the reason for which a plan is not encoded; `None` if other bytes came
abbrev pub wave_reason_as : RawEncodeFault → WaveTwiceFault
wave_reason_as fault = record { reason = option_map Refused (reason_as fault) }

-- ---- the stream

-- why no such stream is written, if so, whatever the samples are
abbrev pub stream_fault_by : StreamPlan → Option EncodeFault
stream_fault_by s = container_fault s.container s.plan s.list

-- after the bits that were there, that of the samples which these bytes are was written
abbrev pub EncodesStream : StreamPlan → (bytes : List ℕ) → (before after : List Bool) → Type 0
EncodesStream s bytes before after = EncodesByIn s.container s.plan s.list bytes before after

-- why its encoding of these bytes stops
abbrev pub StopsStream : StreamPlan → RawEncodeFault → (bytes : List ℕ) → Type 0
StopsStream s e bytes = StopsByIn s.container s.plan s.list e bytes

-- ---- what is planned

-- samples of `wide` bytes, of which a stream has the highest `depth` bits
pub record IsForm (wide depth : ℕ) : Type 0 where
  pub thick : 0 < wide
  pub thin : wide ≤ 4
  pub some : 8 ≤ depth
  pub few : depth ≤ 8 * wide

-- This is the plan for `total` samples of each channel of this format, which can be encoded.
pub record CanBeCut (encoding : Encoding) (format : RawFormat) (total : ℕ) (ps : List LinearPredictor) (p : Planned) : Type 0 where
  pub sound : format_fault encoding.profile format ≡ None
  pub short : total < 2 ^ 36
  pub made : p ≡ planned encoding.profile format total ps (search_of encoding.effort)
  pub good : plan_fault (raw_cut encoding.profile format total ps) ≡ None

-- Why they cannot be: the format; too many samples; or how they are cut into blocks, and the predictors.
abbrev pub StopsCut : Encoding → RawFormat → (total : ℕ) → List LinearPredictor → SetupFault → Type 0
StopsCut encoding format total ps e =
    (format_fault encoding.profile format ≡ Some e)
    ⊎ ((format_fault encoding.profile format ≡ None)
    × (((2 ^ 36 ≤ total) × (e ≡ TooLong)) ⊎ ((total < 2 ^ 36) × (plan_fault (raw_cut encoding.profile format total ps) ≡ Some e))))

-- This is what is to be encoded of a WAV file that these bytes are, with these predictors. Only the container can be a
-- reason to refuse it.
pub record IsPlanned (asked : Asked) (ps : List LinearPredictor) (bytes : List ℕ) (p : WavePlan) : Type 0 where
  pub file : Parts
  pub pieces : List (List ℕ)
  pub rest : List ℕ
  pub wave : IsWave asked.to_end bytes file
  pub cut : ArePiecesAfter file.samples file.back pieces
  pub small : AreBytes file.samples
  pub joined : bytes ≡ all_of (contents p.pieces.items) ++ rest
  pub samples : file.samples ≡ given p.size rest
  pub wide : p.wide ≡ wave_width_of file.format
  pub depth : p.depth ≡ depth_for file
  pub total : ℕ
  pub container : p.stream.container ≡ asked.container
  pub made : p.stream.plan ≡ planned asked.profile (format_as asked.format file) total ps (search_of asked.effort)
  pub are : AreSamples asked.profile (format_as asked.format file) (samples_for file) total
  pub good : plan_fault (raw_cut asked.profile (format_as asked.format file) total ps) ≡ None
  pub list : p.stream.list ≡ blocks_for asked file.format (file.pieces ++ pieces)
  pub refusal : file_refusal asked ps file pieces ≡ option_map Output (stream_fault_by p.stream)

-- the same of any bytes of which this was found
abbrev pub IsPlannedOf : Encoding → (ps : List LinearPredictor) → WaveSurvey → WavePlan → Type 0
IsPlannedOf encoding ps file p = (bytes : List ℕ) → IsSurveyed encoding.to_end bytes file → IsPlanned (asked_of encoding) ps bytes p

-- and in the order in which calls name it
abbrev pub IsPlannedFor : Encoding → (ps : List LinearPredictor) → WavePlan → (bytes : List ℕ) → Type 0
IsPlannedFor encoding ps p bytes = IsPlanned (asked_of encoding) ps bytes p

-- the first reason to refuse any bytes of which this was found; or out of memory
abbrev pub IsPlanRefusal : Encoding → (ps : List LinearPredictor) → WaveSurvey → Refusal → Type 0
IsPlanRefusal encoding ps file e = (bytes : List ℕ) → IsSurveyed encoding.to_end bytes file → IsOutside (Refused e) ⊎ IsFileReason (asked_of encoding) ps bytes (Some (Refused e))

-- ---- the second pass

-- the samples of the second source that a plan is for
abbrev pub samples_by : WavePlan → (rest : List ℕ) → List ℕ
samples_by p rest = stream_samples p.wide p.depth (given p.size rest)

-- The target was sent the stream of the samples of the second source, if it begins with the pieces that come before them.
abbrev pub SendsPlan : {S T : Type 0} (g : source.Ghosts S) (h : target.Ghosts T) → WavePlan → (from : S) (old new : T) → Type 0
SendsPlan g h p from old new =
    g.known from ≡ true → h.known old ≡ true → (rest : List ℕ) → g.coming from ≡ all_of (contents p.pieces.items) ++ rest → EncodesStream p.stream (samples_by p rest) (bits_of (h.sent old)) (bits_of (h.sent new))

-- Why it stops, if its bytes are known and it returned no error: memory ran out, or the target failed; or no such stream is
-- written; or it does not begin with these pieces, or has no such samples after them.
abbrev pub StopsPlan : WavePlan → WaveTwiceFault → (others : List ℕ) → Type 0
StopsPlan p fault others =
    ((r : WaveRefusal) × (fault.reason ≡ Some r) × IsOutside r)
    ⊎ (((e : EncodeFault) × (stream_fault_by p.stream ≡ Some e) × (fault.reason ≡ Some (Refused (Output e))))
    ⊎ ((fault.reason ≡ None) × ((rest : List ℕ) → others ≡ all_of (contents p.pieces.items) ++ rest → ArePlanned p.stream.plan (samples_by p rest) → ⊥)))

-- ---- both

-- this is why it stops, if the bytes of both sources are known and neither returned an error
abbrev pub StopsWaveFor : {S T : Type 0} (g : source.Ghosts S) (h : source.Ghosts T) → Encoding → (old new : S) (from to : T) → WaveTwiceFault → Type 0
StopsWaveFor g h encoding old new from to fault = IfRead g old new (λ bytes. IfRead h from to (λ others. IsWaveTwiceReason (asked_of encoding) bytes others fault.reason))

-- what was sent, if both sources have these bytes
abbrev pub WritesWaveFor : {S T U : Type 0} (g : source.Ghosts S) (h : source.Ghosts T) (k : target.Ghosts U) → Encoding → (first : S) (second : T) (old new : U) → Type 0
WritesWaveFor g h k encoding first second old new =
    g.known first ≡ true → h.known second ≡ true → k.known old ≡ true → h.coming second ≡ g.coming first → EncodesWave (asked_of encoding) (g.coming first) (bits_of (k.sent old)) (bits_of (k.sent new))
