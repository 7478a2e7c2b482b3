-- At which byte a native stream is refused.
use Rattle.std.specs.Prelude.{◌≡◌, ◌≢◌, ℕ, ◌-◌, ◌*◌, ◌/◌, ◌^◌, min, List, length, Option, Some, None}
use Rattle.flac_bits.specs.Bits.{bits_of}
use Rattle.flac_bits.specs.State.{After}
use Rattle.flac_bits.specs.Items.{Refused, Stream}
use Rattle.flac_bits.specs.declared.why.Why.TheVariants.{Memory}
use Rattle.flac_header.specs.declared.subset.Profile.{Profile}
use Rattle.flac_native.specs.Decoding.{start_mark}
use Rattle.flac_native.specs.Stream.{Piece, grammar, opening}
use Rattle.flac_native.specs.declared.located.Located.{Located}

-- After these parts, which are whole bytes, the bytes are refused at this place and for this reason. The offset is the
-- number of these bytes.
pub record IsLocated (profile : Profile) (bytes : List ℕ) (after : After) (l : Located) : Type 0 where
  pub parts : List Piece
  pub refused : Refused grammar (opening profile) (start_mark after) parts (bits_of bytes) l.fault.at l.fault.why
  pub whole : length refused.front ≡ 8 * (length refused.front / 8)
  pub byte : l.byte ≡ min (length refused.front / 8) (2 ^ 64 - 1)

-- That was found of these bytes, unless memory ran out; or else they are a stream.
abbrev pub Locates : Profile → (bytes : List ℕ) → After → Option Located → Type 0
Locates profile bytes after None = (parts : List Piece) × Stream grammar (opening profile) (start_mark after) parts (bits_of bytes)
Locates profile bytes after (Some l) = l.fault.why ≢ Memory → IsLocated profile bytes after l
