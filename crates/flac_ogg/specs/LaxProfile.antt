-- How the profiles are related.
use Rattle.std.specs.Prelude.{◌≢◌, Bool, List}
use Rattle.flac_bits.specs.State.{Mark}
use Rattle.flac_bits.specs.declared.why.Why.{Why}
use Rattle.flac_bits.specs.declared.why.Why.TheVariants.{NotSubset}
use Rattle.flac_header.specs.declared.subset.Profile.TheVariants.{Subset, Lax}
use Rattle.flac_native.specs.Stream.{Piece}
use Rattle.flac_native.specs.declared.fault.Place.{Place}
use Rattle.flac_ogg.specs.Stream.{OggStream, OggRefused}

-- An Ogg stream of the streamable subset (RFC 9639, section 7) is, without the subset's limits, an Ogg stream of the
-- same items.
abbrev pub SubsetOggIsLax : Type 0
SubsetOggIsLax = (mark : Mark) (items : List Piece) (text : List Bool) → OggStream Subset mark items text → OggStream Lax mark items text

-- Without the subset's limits no input is refused as outside the subset. (The reason of a source whose bits run short is
-- its own.)
abbrev pub NothingIsOutsideLaxInOgg : Type 0
NothingIsOutsideLaxInOgg = (mark : Mark) (items : List Piece) (text : List Bool) (at : Place) (why : Why) → mark.short ≢ NotSubset → OggRefused Lax mark items text at why → why ≢ NotSubset
