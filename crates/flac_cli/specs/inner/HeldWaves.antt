-- For the proof of reading the samples of a WAV file in pieces: numbers of all bits of their bytes, of which a stream
-- may have fewer.
use Rattle.std.specs.Prelude.{◌≡◌, ◌<◌, ◌≤◌, ℕ, ℤ, ◌*◌, ◌/◌, ◌%◌, List, length, map}
use Rattle.std.specs.Int.{int_shr}
use Rattle.flac_wave.specs.Format.{row_of}
use Rattle.flac_wave.specs.Shift.{wave_width_of, depth_in, AreBytes}
use Rattle.flac_wave.specs.declared.format.WaveFormat.{WaveFormat}
use Rattle.flac_cli.specs.Waves.{wave_samples}
use Rattle.flac_raw.specs.Reading.{AreParts, AreChannels, IsMore}
use Rattle.flac_cli.specs.declared.wave_samples.HeldSamples.{HeldSamples}

-- each sample, shifted down by `shift` bits
abbrev pub shifted : (shift : ℕ) → List ℤ → List ℤ
shifted shift samples = map (λ z. int_shr z shift) samples

-- samples of this depth have room in the bytes of a sample of this format
pub record HasRoom (f : WaveFormat) (depth : ℕ) : Type 0 where
  pub some : 0 < depth
  pub few : depth ≤ 8 * wave_width_of f

-- these are the samples of `rows` inter-channel samples of a file of this format, which these bytes are
pub record IsHeld (f : WaveFormat) (bytes : List ℕ) (rows : ℕ) (h : HeldSamples) : Type 0 where
  pub small : AreBytes bytes
  pub deep : h.depth ≡ depth_in f bytes
  pub are : AreParts f.channels (wave_width_of f) (wave_samples (8 * wave_width_of f) bytes) rows (map (λ c. c.items) h.channels.items)

-- what is held of whole inter-channel samples is then held of them and of these, which come after them
abbrev pub HoldsMore : WaveFormat → (piece : List ℕ) → (old new : HeldSamples) → Type 0
HoldsMore f piece old new = IsMore (IsHeld f) piece (row_of f) (length piece / row_of f) old new

-- these are all samples of a file of this format, which these bytes are
pub record AreHeld (f : WaveFormat) (bytes : List ℕ) (h : HeldSamples) : Type 0 where
  pub small : AreBytes bytes
  pub whole : length bytes % row_of f ≡ 0
  pub deep : h.depth ≡ depth_in f bytes
  pub are : AreChannels (wave_samples (8 * wave_width_of f) bytes) f.channels (wave_width_of f) (map (λ c. c.items) h.channels.items)

-- the same, in the order in which calls name it
abbrev pub AreHeldOf : WaveFormat → HeldSamples → (bytes : List ℕ) → Type 0
AreHeldOf f h bytes = AreHeld f bytes h
