-- How the profiles are related.
use Rattle.std.specs.Prelude.{◌≡◌, ◌≢◌, Bool, List}
use Rattle.flac_bits.specs.State.{Mark}
use Rattle.flac_bits.specs.Items.{Stream, Refused}
use Rattle.flac_bits.specs.declared.why.Why.{Why}
use Rattle.flac_bits.specs.declared.why.Why.TheVariants.{NotSubset}
use Rattle.flac_header.specs.declared.subset.Profile.TheVariants.{Subset, Lax}
use Rattle.flac_native.specs.Stream.{Piece, Progress, grammar, opening}
use Rattle.flac_native.specs.declared.fault.Place.{Place}

-- At a whole byte a stream of the streamable subset (RFC 9639, section 7) is, without the subset's limits, a stream of
-- the same items.
abbrev pub SubsetIsLax : Type 0
SubsetIsLax = (m : Mark) (items : List Piece) (text : List Bool) → m.unread ≡ 0 → Stream grammar (opening Subset) m items text → Stream grammar (opening Lax) m items text

-- Without the subset's limits no input is refused as outside the subset, whether it is read from its start or from some
-- part on. (The reason of a source whose bits run short is its own.)
abbrev pub NothingIsOutsideLax : Type 0
NothingIsOutsideLax = (p : Progress) (m : Mark) (items : List Piece) (text : List Bool) (at : Place) (why : Why) → p.stand.profile ≡ Lax → m.short ≢ NotSubset
    → Refused grammar p m items text at why → why ≢ NotSubset
