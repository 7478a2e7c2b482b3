-- For proofs of decoding into a sink, if the source did not fail and the sink's errors are counted.
use Rattle.std.specs.Prelude.{◌≡◌, ◌<◌, true, Some, Result, OnOk}
use Rattle.flac_bits.specs.Handing.{outcome_of, TakesAll}
use Rattle.flac_bits.specs.declared.source.Source as source
use Rattle.flac_bits.specs.declared.why.Why.TheVariants as why
use Rattle.flac_header.specs.declared.subset.Profile.{Profile}
use Rattle.flac_native.specs.Decoding.{taken}
use Rattle.flac_native.specs.declared.decoding.Sink as sink
use Rattle.flac_native.specs.declared.fault.Fault.{Fault}
use Rattle.flac_native.specs.declared.fault.Place.{Place}
use Rattle.flac_cli.specs.Streams.{Tells, GivesStreamOf}
use Rattle.flac_cli.specs.inner.Outcomes.{at_place, FitsStream}

-- at Ok the source gives a stream, and the sink took all of its parts
abbrev pub TakesStream : {S K X E : Type 0} (g : source.Ghosts S) (k : sink.Ghosts K) → Profile → (from to : S) (old new : K) → Result X E → Type 0
TakesStream g k profile from to old new result = Tells g from to → k.known old ≡ true → OnOk result (GivesStreamOf g profile from (λ parts. TakesAll (taken k.takes) old parts new))

-- if the sink returned no error, the outcome is what the input is
abbrev pub ReturnsTaken : {S K X : Type 0} (g : source.Ghosts S) (k : sink.Ghosts K) → Profile → (from to : S) (old new : K) → Result X Fault → Type 0
ReturnsTaken g k profile from to old new result = Tells g from to → k.known old ≡ true → k.errors new ≡ k.errors old → FitsStream g profile from result

-- if it did, the outcome is that, at some place
abbrev pub ReturnsSinkFault : {S K X : Type 0} (g : source.Ghosts S) (k : sink.Ghosts K) → (from to : S) (old new : K) → Result X Fault → Type 0
ReturnsSinkFault g k from to old new result = Tells g from to → k.known old ≡ true → k.errors old < k.errors new → (at : Place) × (outcome_of at_place result ≡ Some (Some at, why.Sink))
