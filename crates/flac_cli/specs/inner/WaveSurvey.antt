-- For the proof of the pass over a WAV file that holds none of its samples: what is found of them, and of the file.
use Rattle.std.specs.Prelude.{◌≡◌, ◌≤◌, ◌+◌, ◌-◌, ◌*◌, ◌/◌, ◌%◌, ◌^◌, ◌++◌, ℕ, Bool, true, false, not, nat_eq, cond, max, min, List, [], length, Option, None}
use Rattle.flac_bits.specs.declared.source.Source as source
use Rattle.flac_wave.specs.Format.{row_of}
use Rattle.flac_wave.specs.Front.{BeginsWith}
use Rattle.flac_wave.specs.Parts.{given, beyond}
use Rattle.flac_wave.specs.Shift.{wave_width_of, depth_in, AreBytes}
use Rattle.flac_wave.specs.Wave.{Parts, IsWave, ArePiecesAfter, all_of}
use Rattle.flac_wave.specs.declared.format.WaveFormat.{WaveFormat}
use Rattle.flac_wave.specs.declared.front.WaveFront.{WaveFront}
use Rattle.flac_cli.specs.Waves.{contents}
use Rattle.flac_cli.specs.inner.WaveSamples.{samples_fault}
use Rattle.flac_cli.specs.declared.wave_survey.SampleSurvey.{SampleSurvey}
use Rattle.flac_cli.specs.declared.wave_survey.WaveSurvey.{WaveSurvey}

-- ---- samples

-- a stream can have this many bits of each sample of a file of this format
pub record HasDepth (f : WaveFormat) (depth : ℕ) : Type 0 where
  pub some : 8 ≤ depth
  pub few : depth ≤ 8 * wave_width_of f

-- of no samples
abbrev pub none_found : WaveFormat → SampleSurvey
none_found f = record { depth = depth_in f []; total = 0; odd = false; whole = true }

-- this was found of `rows` inter-channel samples of a file of this format, which these bytes are
pub record IsFoundOf (f : WaveFormat) (bytes : List ℕ) (rows : ℕ) (s : SampleSurvey) : Type 0 where
  pub small : AreBytes bytes
  pub deep : s.depth ≡ depth_in f bytes
  pub many : s.total ≡ min rows (2 ^ 64 - 1)
  pub odd : not s.odd ≡ nat_eq (length bytes % 2) 0
  pub whole : s.whole ≡ true

-- what was found of samples is then found of them and of these, which come after them
abbrev pub SurveysMore : WaveFormat → (piece : List ℕ) → (old new : SampleSurvey) → Type 0
SurveysMore f piece old new =
    (bytes : List ℕ) (rows : ℕ) → length bytes ≡ rows * row_of f → IsFoundOf f bytes rows old → IsFoundOf f (bytes ++ piece) (rows + length piece / row_of f) new

-- this was found of all samples of a file of this format, which these bytes are
pub record AreFoundOf (f : WaveFormat) (bytes : List ℕ) (s : SampleSurvey) : Type 0 where
  pub small : AreBytes bytes
  pub whole : length bytes % row_of f ≡ 0
  pub deep : s.depth ≡ depth_in f bytes
  pub many : s.total ≡ min (length bytes / row_of f) (2 ^ 64 - 1)
  pub odd : not s.odd ≡ nat_eq (length bytes % 2) 0

-- the same of these bytes if they are whole inter-channel samples
pub record IsSampled (f : WaveFormat) (bytes : List ℕ) (s : SampleSurvey) : Type 0 where
  pub whole : s.whole ≡ nat_eq (length bytes % row_of f) 0
  pub are : s.whole ≡ true → AreFoundOf f bytes s

-- in the order in which calls name it
abbrev pub IsSampledOf : WaveFormat → SampleSurvey → (bytes : List ℕ) → Type 0
IsSampledOf f s bytes = IsSampled f bytes s

-- of those of these bytes that samples of this size are
abbrev pub IsGivenOf : WaveFormat → (size : Option ℕ) → SampleSurvey → (bytes : List ℕ) → Type 0
IsGivenOf f size s bytes = AreFoundOf f (given size bytes) s

-- ---- the file

-- a file of this format and these pieces, whose samples are the first of these bytes
abbrev pub surveyed_parts : WaveSurvey → (rest : List ℕ) → Parts
surveyed_parts f rest = record { format = f.format; pieces = contents f.pieces.items; samples = given f.size rest; back = beyond f.size rest }

-- these bytes are a WAV file: its pieces, and what comes after them
pub record IsSurveyed (to_end : Bool) (bytes : List ℕ) (f : WaveSurvey) : Type 0 where
  pub rest : List ℕ
  pub wave : IsWave to_end bytes (surveyed_parts f rest)
  pub cut : ArePiecesAfter (given f.size rest) (beyond f.size rest) (contents f.after.items)
  pub joined : bytes ≡ all_of (contents f.pieces.items) ++ rest
  pub are : AreFoundOf f.format (given f.size rest) f.samples

-- these bytes are the samples of this size, and what follows them, after what comes before them
pub record FindsPart (to_end : Bool) (f : WaveFront) (size : Option ℕ) (bytes : List ℕ) (file : WaveSurvey) : Type 0 where
  pub form : file.format ≡ f.format
  pub pieces : file.pieces ≡ f.pieces
  pub sized : file.size ≡ size
  pub good : samples_fault to_end f size bytes ≡ None
  pub are : AreFoundOf f.format (given size bytes) file.samples
  pub cut : ArePiecesAfter (given size bytes) (beyond size bytes) (contents file.after.items)

-- the bytes of a source, if they are known, are the rest of this file, which begins so
abbrev pub FindsRest : {S : Type 0} (g : source.Ghosts S) → (to_end : Bool) → WaveFront → S → WaveSurvey → Type 0
FindsRest g to_end front from f = g.known from ≡ true → (bytes : List ℕ) → BeginsWith to_end bytes front (g.coming from) → IsSurveyed to_end bytes f
