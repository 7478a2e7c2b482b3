-- Bytes that are read as a stream, or as the frames of one, and what comes after them.
use Rattle.std.specs.Prelude.{ℕ, List}
use Rattle.flac_bits.specs.Bits.{bits_of}
use Rattle.flac_bits.specs.State.{After}
use Rattle.flac_bits.specs.Handing.{InputReading, by_grammar}
use Rattle.flac_info.specs.Info.{Info}
use Rattle.flac_header.specs.declared.subset.Profile.{Profile}
use Rattle.flac_native.specs.Decoding.{start_mark}
use Rattle.flac_native.specs.Resuming.{resumed}
use Rattle.flac_native.specs.Stream.{Piece, grammar, opening}
use Rattle.flac_native.specs.declared.fault.Place.{Place}
use Rattle.flac_ogg.specs.Decoding.{ogg_reading}
use Rattle.flac_ogg.specs.Either.{begins_page, read_either}

-- how the bytes of a source, and what comes after them, are read
abbrev pub Input : Type 1
Input = List ℕ → After → InputReading Piece Place

-- as a native stream (RFC 9639, section 6)
abbrev pub native_input : Profile → List ℕ → After → InputReading Piece Place
native_input profile bytes ending = by_grammar grammar (opening profile) (start_mark ending) (bits_of bytes)

-- as an Ogg stream (section 10.1)
abbrev pub ogg_input : Profile → List ℕ → After → InputReading Piece Place
ogg_input profile bytes ending = ogg_reading profile (start_mark ending) (bits_of bytes)

-- as an Ogg stream if the first byte is that of a page, else as a native stream
abbrev pub any_input : Profile → List ℕ → After → InputReading Piece Place
any_input profile bytes ending = read_either profile (begins_page bytes) (start_mark ending) (bits_of bytes)

-- as the frames of a native stream with this STREAMINFO, from any of them on (section 9)
abbrev pub frame_input : Profile → Info → List ℕ → After → InputReading Piece Place
frame_input profile info bytes ending = by_grammar grammar (resumed profile info) (start_mark ending) (bits_of bytes)
