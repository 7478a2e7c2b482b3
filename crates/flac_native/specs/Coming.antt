-- What is still to come of a stream, whatever container it is in, and what a sink takes of it.
use Rattle.std.specs.Prelude.{◌≡◌, ◌≢◌, ◌<◌, ℕ, Bool, true, List, [], ◌∷◌, ◌++◌, Option, Some, None, Result, Ok, Err, IfErr}
use Rattle.flac_bits.specs.State.{Cursor, After, without_fence}
use Rattle.flac_bits.specs.Items.{state_after}
use Rattle.flac_bits.specs.Handing.{TakesAll, InputReading, by_grammar, IsOutside, reason_of}
use Rattle.flac_bits.specs.declared.why.Why.{Why}
use Rattle.flac_bits.specs.declared.why.Why.TheVariants.{Memory, Read, Sink}
use Rattle.flac_native.specs.Item.{fault_pair}
use Rattle.flac_native.specs.Stream.{Piece, Progress, grammar, next}
use Rattle.flac_native.specs.Track.{IsAt, piece_of}
use Rattle.flac_native.specs.declared.container.Part.{Part}
use Rattle.flac_native.specs.declared.fault.Place.{Place}
use Rattle.flac_native.specs.declared.fault.Place.TheVariants as place
use Rattle.flac_native.specs.declared.fault.Fault.{Fault}
use Rattle.flac_native.specs.declared.track.Track.{Track}

-- after this progress these parts are still to come, and then the end of the stream, or its refusal
abbrev pub Coming : Type 1
Coming = Progress → List Piece → Option (Place × Why) → Type 0

-- by this reading, these parts are all items, or it is refused after them
abbrev pub ReadAs : InputReading Piece Place → List Piece → Option (Place × Why) → Type 0
ReadAs r parts None = r.whole parts
ReadAs r parts (Some f) = r.refused parts f.0 f.1

-- of a native stream, at this cursor
abbrev pub PartsCome : Progress → Cursor → List Piece → Option (Place × Why) → Type 0
PartsCome p c parts end = ReadAs (by_grammar grammar p c.mark c.left) parts end

-- A call that ended early, by an error of the source or because memory ran out, reports the place of the next part; and
-- reading the marker needs no memory.
abbrev pub EndsEarly : Progress → Place → Why → Type 0
EndsEarly p at why = (at ≡ grammar.place p) × (why ≡ Memory → at ≢ place.Marker)

-- the result, seen by view, is the first of these parts, or else the end; the others are still to come after it
abbrev pub IsNext : {X : Type 0} → Coming → Progress → (X → Piece) → Result (Option X) Fault → List Piece → Option (Place × Why) → Type 0
IsNext gives p view result [] None = result ≡ Ok None
IsNext gives p view result [] (Some f) = result ≡ Err (record { at = f.0; why = f.1 })
IsNext {X} gives p view result (x ∷ xs) end = (y : X) × (result ≡ Ok (Some y)) × (view y ≡ x) × gives (next p x) xs end

-- of these parts to come, and then this end, the receiver took the first
pub record HandsFirst {K : Type 0} (takes : K → Piece → K → Type 0) (errors : K → ℕ) (p : Progress) (parts : List Piece) (end : Option (Place × Why)) (calm : Type 0) (breaks : List Piece → Place → Why → Type 0) (old new : K) (outcome : Option (Place × Why)) : Type 0 where
  pub taken : List Piece
  pub left : List Piece
  pub split : parts ≡ taken ++ left
  pub mid : K
  pub took : TakesAll takes old taken mid
  -- if it did not fail, it is in the state after them
  pub whole : errors new ≡ errors old → mid ≡ new
  -- it took all of them, and this is the end
  pub done : calm → outcome ≡ None → (left ≡ []) × (end ≡ None) × (mid ≡ new)
  pub refused : calm → (at : Place) (why : Why) → outcome ≡ Some (at, why) → why ≢ Memory → errors new ≡ errors old → (left ≡ []) × (end ≡ Some (at, why))
  -- if the source failed or memory ran out, this is reported at its place of the part after them
  pub broken : (at : Place) (why : Why) → outcome ≡ Some (at, why) → IsOutside why → (mid ≡ new) × breaks taken at why
  -- if it failed, this is reported at the place of the part that it did not take
  pub failed : errors old < errors new → (at : Place) × (outcome ≡ Some (at, Sink)) × (at ≡ grammar.place (state_after grammar p taken))

-- ---- a call of a container, before which it is `old` and the track `before`, and after which they are `new` and `after`

-- It met no error of the device: what is known stays known, and no count rose.
abbrev pub MeetsNone : {C : Type 0} → (known : C → Bool) → (errors raised met : C → ℕ) → C → C → Type 0
MeetsNone known errors raised met old new = (known old ≡ true → known new ≡ true) × (errors new ≡ errors old) × (raised new ≡ raised old) × (met new ≡ met old)

-- if the parts to come are known and no error was announced that is not counted, none is now
abbrev pub StaysClear : {C : Type 0} → (known : C → Bool) → (clear : C → Track → Type 0) → C → Track → C → Track → Type 0
StaysClear known clear old before new after = known old ≡ true → clear old before → clear new after

-- the same, and it returned `Read`: this was counted
abbrev pub ReadIsCounted : {C : Type 0} → (known : C → Bool) → (raised : C → ℕ) → (clear : C → Track → Type 0) → Track → C → C → Why → Type 0
ReadIsCounted known raised clear before old new why = known old ≡ true → why ≡ Read → clear old before → raised old < raised new

-- if the bytes to come are known, and no error was returned that was not announced, the same comes after them
abbrev pub KeepsAfter : {C : Type 0} → (known : C → Bool) → (errors : C → ℕ) → (follows : C → After) → C → C → Type 0
KeepsAfter known errors follows old new = known old ≡ true → errors new ≡ errors old → follows new ≡ without_fence (follows old)

-- It returned the first of the parts to come, or else the end, if these are known, it met no error, and memory did not
-- run out.
abbrev pub GivesNext : {C : Type 0} → (known : C → Bool) → (errors raised : C → ℕ) → (gives : C → Coming) → Track → Track → C → C → Result (Option Part) Fault → Type 0
GivesNext known errors raised gives before after old new result =
    (p : Progress) → IsAt before p → known old ≡ true → errors new ≡ errors old → raised new ≡ raised old → (reason_of fault_pair result ≡ Err Memory → ⊥)
    → (parts : List Piece) (end : Option (Place × Why)) → gives old p parts end → IsNext (gives new) p (piece_of after) result parts end

-- an error from outside, of the source or for want of memory, came where the container allows it
abbrev pub BreaksOutside : {C X : Type 0} → (breaks : C → Progress → Place → Why → Type 0) → Track → C → Result X Fault → Type 0
BreaksOutside breaks track new result = (p : Progress) → IsAt track p → IfErr result (λ f. IsOutside f.why → breaks new p f.at f.why)
