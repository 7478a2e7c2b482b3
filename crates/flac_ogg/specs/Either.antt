-- A stream in either container, by its first byte.
use Rattle.std.specs.Prelude.{◌≡◌, ◌⊎◌, ℕ, Bool, true, false, nat_eq, List, [], ◌∷◌}
use Rattle.flac_bits.specs.State.{Mark}
use Rattle.flac_bits.specs.Handing.{InputReading, by_grammar}
use Rattle.flac_bits.specs.declared.why.Why.TheVariants.{Read}
use Rattle.flac_native.specs.Stream.{Piece, grammar, opening}
use Rattle.flac_native.specs.declared.fault.Place.{Place}
use Rattle.flac_native.specs.declared.fault.Place.TheVariants as place
use Rattle.flac_ogg.specs.Decoding.{ogg_reading}
use Rattle.flac_header.specs.declared.subset.Profile.{Profile}

-- the first byte is that of a page (RFC 3533, section 6)
abbrev pub begins_page : List ℕ → Bool
begins_page [] = false
begins_page (b ∷ bytes) = nat_eq b 79

-- such an input is read as an Ogg stream (RFC 9639, section 10.1), any other as a native one (section 6)
abbrev pub read_either : Profile → Bool → Mark → List Bool → InputReading Piece Place
read_either profile true mark text = ogg_reading profile mark text
read_either profile false mark text = by_grammar grammar (opening profile) mark text

-- The same by a call that pulls the first byte alone: an error of the device for this byte is reported at the marker.
abbrev pub by_first_byte : InputReading Piece Place → InputReading Piece Place
by_first_byte r = record r { breaks = λ items at why. r.breaks items at why ⊎ ((items ≡ []) × (at ≡ place.Marker) × (why ≡ Read)) }

-- a call that chooses the container by the first byte reads its input so
abbrev pub read_any : Profile → Bool → Mark → List Bool → InputReading Piece Place
read_any profile is_ogg mark text = by_first_byte (read_either profile is_ogg mark text)
