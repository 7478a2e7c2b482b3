-- For the proof of reading what comes before the samples, piece by piece.
use Rattle.std.specs.Prelude.{◌≡◌, ◌≤◌, ◌<◌, ℕ, true, false, List, [], ◌++◌, length, Option, Some, None}
use Rattle.flac_bits.specs.declared.source.Source as source
use Rattle.flac_bits.specs.declared.why.Why.{Why}
use Rattle.flac_bits.specs.declared.why.Why.TheVariants as why
use Rattle.flac_wave.specs.Chunks.{fault_at, is_data, chunk_len}
use Rattle.flac_wave.specs.Format.{IsInRange}
use Rattle.flac_wave.specs.declared.seen.Seen.{Seen}
use Rattle.flac_wave.specs.declared.format.WaveFormat.{WaveFormat}
use Rattle.flac_wave.specs.declared.waves.WaveError.{WaveError}
use Rattle.flac_wave.specs.declared.waves.WaveError.TheVariants as error
use Rattle.flac_wave.specs.declared.waves.WaveFault.{WaveFault}
use Rattle.flac_wave.specs.declared.why.WaveWhy.{WaveWhy}
use Rattle.flac_wave.specs.Calls.{IfRead}

-- The bytes begin with this piece: the header of the chunk of samples, or another chunk, of which all is there that comes.
pub record IsPiece (bytes piece rest : List ℕ) : Type 0 where
  pub long : 8 ≤ length piece
  pub is : bytes ≡ piece ++ rest
  pub head : is_data piece ≡ true → length piece ≡ 8
  pub few : is_data piece ≡ false → length piece ≤ chunk_len piece
  pub cut : is_data piece ≡ false → length piece < chunk_len piece → rest ≡ []

-- if the bytes of the source are known, these and those are such a piece and what is left
abbrev pub ReadsPiece : {S : Type 0} (g : source.Ghosts S) (head : List ℕ) (old new : S) (piece : List ℕ) → Type 0
ReadsPiece g head old new piece = g.known old ≡ true → IsPiece (head ++ g.coming old) piece (g.coming new)

-- why an error of a source is one of reading a WAV file
abbrev pub error_of : Why → WaveError
error_of why.Memory = error.Memory
error_of other = error.Read

-- the error for a chunk of this number
abbrev pub error_at : (count : ℕ) → WaveWhy → WaveError
error_at count w = error.Fault (record { chunk = Some count; why = w })

-- after `count` chunks there is neither a chunk nor the samples for this reason, whatever those chunks are, unless memory
-- ran out; no source failed
abbrev pub IsPieceError : (count : ℕ) (bytes : List ℕ) → WaveError → Type 0
IsPieceError count bytes error.Memory = Unit {0}
IsPieceError count bytes error.Read = ⊥
IsPieceError count bytes (error.Fault f) = (f.chunk ≡ Some count) × ((s : Seen) → fault_at s bytes ≡ Some f.why)

-- a format that is known is in range
abbrev pub KnownInRange : Option WaveFormat → Type 0
KnownInRange None = Unit {0}
KnownInRange (Some f) = IsInRange f

-- the same of the bytes of a source after these, if they are known and it returned no error in the call
abbrev pub IsPieceErrorOf : {S : Type 0} (g : source.Ghosts S) (old new : S) → (count : ℕ) (head : List ℕ) → WaveError → Type 0
IsPieceErrorOf g old new count head e = IfRead g old new (IsPieceError count (head ++ g.coming old) e)
