-- Whether bytes are a stream.
use Rattle.std.specs.Prelude.{◌≢◌, ℕ, List, Option, Some, None}
use Rattle.flac_bits.specs.Bits.{bits_of}
use Rattle.flac_bits.specs.Handing.{InputReading}
use Rattle.flac_bits.specs.declared.why.Why.{Why}
use Rattle.flac_bits.specs.declared.why.Why.TheVariants.{Truncated, Memory}
use Rattle.flac_native.specs.Stream.{Piece}
use Rattle.flac_native.specs.Decoding.{beginning}
use Rattle.flac_native.specs.declared.fault.Place.{Place}
use Rattle.flac_ogg.specs.Either.{begins_page, read_any}
use Rattle.flac_header.specs.declared.subset.Profile.{Profile}

-- how bytes are read in the container that the first of them names; after the last one the input ends
abbrev pub bytes_reading : Profile → List ℕ → InputReading Piece Place
bytes_reading profile bytes = read_any profile (begins_page bytes) (beginning Truncated) (bits_of bytes)

-- the bytes are a stream if nothing is reported, and else are refused at this place and for this reason, unless memory
-- ran out
abbrev pub Verifies : Profile → List ℕ → Option (Place × Why) → Type 0
Verifies profile bytes None = (items : List Piece) × (bytes_reading profile bytes).whole items
Verifies profile bytes (Some f) = f.1 ≢ Memory → (items : List Piece) × (bytes_reading profile bytes).refused items f.0 f.1
