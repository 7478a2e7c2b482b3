-- For the proof of reading a WAV file from a source: its samples, and what comes after them.
use Rattle.std.specs.Prelude.{◌≡◌, ℕ, ℤ, ◌*◌, ◌%◌, Bool, true, false, not, nat_eq, List, length, map, Option, Some, None, is_some, Result, Ok, Err}
use Rattle.flac_bits.specs.declared.source.Source as source
use Rattle.flac_header.specs.declared.subset.Profile.{Profile}
use Rattle.flac_frame.specs.Audio.{Sound}
use Rattle.flac_frame.specs.declared.setup.SetupFault.{SetupFault}
use Rattle.flac_native.specs.Message.{sample_width}
use Rattle.flac_wave.specs.Format.{row_of}
use Rattle.flac_wave.specs.Shift.{wave_width_of, depth_in, AreBytes as AreSmall}
use Rattle.flac_wave.specs.Calls.{IfRead}
use Rattle.flac_wave.specs.Wave.{Parts, IsWave, ArePiecesAfter, IsErrorOf}
use Rattle.flac_wave.specs.declared.format.WaveFormat.{WaveFormat}
use Rattle.flac_wave.specs.Front.{front_fault, are_whole, BeginsWith}
use Rattle.flac_wave.specs.Parts.{given, beyond, is_cut}
use Rattle.flac_wave.specs.declared.front.WaveFront.{WaveFront}
use Rattle.flac_wave.specs.declared.waves.WaveError.{WaveError}
use Rattle.flac_wave.specs.declared.waves.WaveError.TheVariants as error
use Rattle.flac_wave.specs.declared.why.WaveWhy.{WaveWhy}
use Rattle.flac_cli.specs.Waves.{stream_samples, contents}
use Rattle.flac_raw.specs.Raw.{IsRaw, raw_sound}
use Rattle.flac_cli.specs.Refusals.{raw_fault}
use Rattle.flac_cli.specs.declared.encode.Refusal.TheVariants.{Setup}
use Rattle.flac_jobs.specs.declared.formats.RawFormat.{RawFormat}
use Rattle.flac_raw.specs.Reading.{AreChannels}
use Rattle.flac_cli.specs.declared.wave_samples.WaveSamples.{WaveSamples}
use Rattle.flac_cli.specs.declared.wave_file.WaveFile.{WaveFile}

-- the samples of `count` channels, of `width` bytes each, are all that these bytes are
pub record AreRaw (count width : ℕ) (bytes : List ℕ) (channels : List (List ℤ)) : Type 0 where
  pub whole : length bytes % (count * width) ≡ 0
  pub are : AreChannels bytes count width channels

-- these are the samples of a WAV file of this format that these bytes are, as those of a stream
pub record AreTaken (f : WaveFormat) (bytes : List ℕ) (s : WaveSamples) : Type 0 where
  pub small : AreSmall bytes
  pub whole : length bytes % row_of f ≡ 0
  pub deep : s.depth ≡ depth_in f bytes
  pub raw : AreRaw f.channels (sample_width s.depth) (stream_samples (wave_width_of f) s.depth bytes) (map (λ c. c.items) s.channels.items)
  pub odd : not s.odd ≡ nat_eq (length bytes % 2) 0

-- the same, in the order in which calls name it
abbrev pub AreTakenOf : WaveFormat → WaveSamples → (bytes : List ℕ) → Type 0
AreTakenOf f s bytes = AreTaken f bytes s

-- of those of these bytes that samples of this size are
abbrev pub TakesGiven : WaveFormat → (size : Option ℕ) → WaveSamples → (bytes : List ℕ) → Type 0
TakesGiven f size s bytes = AreTaken f (given size bytes) s

-- a file of this format and these pieces, with these samples and what follows them
abbrev pub parts_with : WaveFile → (samples back : List ℕ) → Parts
parts_with f samples back = record { format = f.format; pieces = contents f.pieces.items; samples = samples; back = back }

-- these bytes are the WAV file of which these are the parts
pub record IsTaken (to_end : Bool) (bytes : List ℕ) (f : WaveFile) : Type 0 where
  pub samples : List ℕ
  pub back : List ℕ
  pub wave : IsWave to_end bytes (parts_with f samples back)
  pub cut : ArePiecesAfter samples back (contents f.after.items)
  pub taken : AreTaken f.format samples f.samples

-- why the samples of this size are none that come of these bytes after what comes before them
abbrev pub samples_fault : (to_end : Bool) → WaveFront → (size : Option ℕ) → (bytes : List ℕ) → Option WaveWhy
samples_fault to_end f size bytes = front_fault to_end (is_cut size bytes) (are_whole f.format size bytes)

-- there is no such reason
abbrev pub AreGood : (to_end : Bool) → WaveFront → (size : Option ℕ) → (bytes : List ℕ) → Type 0
AreGood to_end f size bytes = samples_fault to_end f size bytes ≡ None

-- the header of the samples states 0 bytes
abbrev pub states_none : (size : Option ℕ) → Bool
states_none None = false
states_none (Some n) = nat_eq n 0

-- these bytes are the samples of this size, and what follows them, after what comes before them
pub record IsPart (to_end : Bool) (f : WaveFront) (size : Option ℕ) (bytes : List ℕ) (file : WaveFile) : Type 0 where
  pub form : file.format ≡ f.format
  pub pieces : file.pieces ≡ f.pieces
  pub good : samples_fault to_end f size bytes ≡ None
  pub taken : AreTaken f.format (given size bytes) file.samples
  pub cut : ArePiecesAfter (given size bytes) (beyond size bytes) (contents file.after.items)

-- the fault of the samples, whose chunk comes after `count` others
abbrev pub fault_after : (count : ℕ) → WaveWhy → WaveError
fault_after count why = error.Fault (record { chunk = Some count; why = why })

-- These are the samples that were read, or this is why they are none.
abbrev pub IsJudged : (read : Option WaveSamples) (count : ℕ) (to_end cut : Bool) → Result WaveSamples WaveError → Type 0
IsJudged read count to_end cut (Ok s) = (read ≡ Some s) × (front_fault to_end cut true ≡ None)
IsJudged read count to_end cut (Err e) = (why : WaveWhy) × (e ≡ fault_after count why) × (front_fault to_end cut (is_some read) ≡ Some why)

-- this error says why the samples are none, unless memory ran out; no source failed
abbrev pub IsSamplesError : (to_end : Bool) → WaveFront → (size : Option ℕ) → (bytes : List ℕ) → WaveError → Type 0
IsSamplesError to_end f size bytes error.Memory = Unit {0}
IsSamplesError to_end f size bytes error.Read = ⊥
IsSamplesError to_end f size bytes (error.Fault e) = (e.chunk ≡ Some f.count) × (samples_fault to_end f size bytes ≡ Some e.why)

-- ---- a source

-- the same of its bytes, if they are known and it returned no error
abbrev pub IsReadError : {S : Type 0} (g : source.Ghosts S) → (to_end : Bool) → WaveFront → (size : Option ℕ) → (from to : S) → WaveError → Type 0
IsReadError g to_end f size from to e = IfRead g from to (IsSamplesError to_end f size (g.coming from) e)

-- its bytes, if they are known, are the rest of this file, which begins so
abbrev pub IsRestTaken : {S : Type 0} (g : source.Ghosts S) → (to_end : Bool) → WaveFront → S → WaveFile → Type 0
IsRestTaken g to_end front from f = g.known from ≡ true → (bytes : List ℕ) → BeginsWith to_end bytes front (g.coming from) → IsTaken to_end bytes f

-- this error says why there is no such file, if it returned no error, either
abbrev pub IsRestError : {S : Type 0} (g : source.Ghosts S) → (to_end : Bool) → WaveFront → (from to : S) → WaveError → Type 0
IsRestError g to_end front from to e = IfRead g from to ((bytes : List ℕ) → BeginsWith to_end bytes front (g.coming from) → IsErrorOf to_end bytes e)

-- ---- samples in memory

-- These are the samples of any bytes that they are of in this format, or this is why those cannot be encoded.
abbrev pub MakesRaw : Profile → RawFormat → (channels : List (List ℤ)) → Result Sound SetupFault → Type 0
MakesRaw profile format channels (Ok a) =
    (raw : List ℕ) → AreRaw format.channels (sample_width format.bits) raw channels → IsRaw profile format raw a × (a ≡ raw_sound profile format raw) × (raw_fault profile format raw ≡ None)
MakesRaw profile format channels (Err e) =
    (raw : List ℕ) → AreRaw format.channels (sample_width format.bits) raw channels → raw_fault profile format raw ≡ Some (Setup e)
