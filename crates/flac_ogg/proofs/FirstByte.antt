-- A byte in front of those that a source gives.
use Rattle.std.proofs.Common.{◌≡◌, ℕ, ◌<◌, Bool, true, false, List, [], ◌∷◌, ◌++◌, length, take, slice_set, Option, Some, None, inl, inr, refl, ap, arith}
use Rattle.flac_bits.specs.State.{Mark}
use Rattle.flac_bits.specs.Handing.{InputReading, Hands, Decides}
use Rattle.flac_bits.specs.declared.why.Why.{Why}
use Rattle.flac_bits.specs.declared.why.Why.TheVariants.{Read}
use Rattle.flac_native.specs.Stream.{Piece}
use Rattle.flac_native.specs.declared.fault.Place.{Place}
use Rattle.flac_native.specs.declared.fault.Place.TheVariants as place
use Rattle.flac_ogg.specs.Stream.{start}
use Rattle.flac_ogg.specs.Fronts.{front_bytes}
use Rattle.flac_ogg.specs.Either.{begins_page, read_either, by_first_byte, read_any}
use Rattle.flac_ogg.proofs.MeaningContents.{ahead_of}
use Rattle.flac_ogg.proofs.MeaningStreams.{goes_begins}
use Rattle.flac_header.specs.declared.subset.Profile.{Profile}

pub front_put : (buf : List ℕ) (b : ℕ) → 0 < length buf → take 1 (slice_set buf 0 b) ≡ b ∷ []
front_put [] b some = absurd (omega (arith, some))
front_put (x ∷ xs) b some = refl

-- the first byte of all is the one in front of the others
pub first_of : (front : Option ℕ) (rest all : List ℕ) → all ≡ front_bytes front ++ rest → (front ≡ None → all ≡ []) → begins_page all ≡ begins_page (front_bytes front)
first_of None rest all split none = ap begins_page (none refl)
first_of (Some b) rest all split none = ap begins_page split

-- each input begins with no item
begins_nothing : (profile : Profile) (is_ogg : Bool) (mark : Mark) (text : List Bool) → (read_either profile is_ogg mark text).begins []
begins_nothing profile true mark text = (goes_begins profile mark text [] (start profile) (ahead_of mark text) (refl, refl)).begins
begins_nothing profile false mark text = ([], text, refl, refl)

-- a call that pulls the first byte alone yields the same
pub hands_by_byte : {K : Type 0} (r : InputReading Piece Place) (takes : K → Piece → K → Type 0) (errors : K → ℕ) (calm : Type 0) (old new : K) (outcome : Option (Place × Why)) → Hands r takes errors calm old new outcome → Hands (by_first_byte r) takes errors calm old new outcome
hands_by_byte r takes errors calm old new outcome h = record {
  done = h.done;
  refused = h.refused;
  begun = h.begun;
  broken = λ at why is out. let b = h.broken at why is out in (b.0, b.1, inl b.2, b.3);
  failed = h.failed;
}

-- and decides the same
pub decides_by_byte : (r : InputReading Piece Place) (outcome : Option (Place × Why)) → Decides r outcome → Decides (by_first_byte r) outcome
decides_by_byte r outcome d = record { accepted = d.accepted; is_refused = d.is_refused; shown = d.shown }

-- the source failed before the first item
pub nothing_came : {K : Type 0} (profile : Profile) (is_ogg : Bool) (mark : Mark) (text : List Bool) (takes : K → Piece → K → Type 0) (errors : K → ℕ) (calm : Type 0) (sink : K) (outcome : Option (Place × Why))
    → (calm → ⊥) → ((at : Place) (why : Why) → outcome ≡ Some (at, why) → (at ≡ place.Marker) × (why ≡ Read)) → Hands (read_any profile is_ogg mark text) takes errors calm sink sink outcome
nothing_came profile is_ogg mark text takes errors calm sink outcome none marker = record {
  done = λ quiet e. absurd (none quiet);
  refused = λ quiet at why e room same. absurd (none quiet);
  begun = ([], sink, begins_nothing profile is_ogg mark text, refl, λ same. refl);
  broken = λ at why e out. let told = marker at why e in ([], begins_nothing profile is_ogg mark text, inr (refl, told.0, told.1), refl);
  failed = λ rose. absurd (omega (arith, rose));
}
