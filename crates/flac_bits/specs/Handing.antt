-- What a call that reads a stream item by item passes to a receiver.
use Rattle.std.specs.Prelude.{◌≡◌, ◌≢◌, ◌<◌, ℕ, Bool, List, [], ◌∷◌, ◌++◌, Option, Some, None, Result, Ok, Err, ◌⊎◌}
use Rattle.flac_bits.specs.State.{Mark}
use Rattle.flac_bits.specs.Items.{Grammar, state_after, Joined, Stream, Refused}
use Rattle.flac_bits.specs.declared.why.Why.{Why}
use Rattle.flac_bits.specs.declared.why.Why.TheVariants.{Memory, Read, Sink}

-- ---- one step

-- None, or the place and the reason of the error, by `told`
abbrev pub outcome_of : {X E P : Type 0} → (E → P × Why) → Result X E → Option (P × Why)
outcome_of told (Ok x) = None
outcome_of told (Err e) = Some (told e)

-- the result with the reason alone
abbrev pub reason_of : {X E P : Type 0} → (E → P × Why) → Result X E → Result X Why
reason_of told (Ok x) = Ok x
reason_of told (Err e) = Err (told e).1

-- ---- a whole reading

-- a receiver that takes these items, one after another, gets from old to new
abbrev pub TakesAll : {K I : Type 0} → (K → I → K → Type 0) → K → List I → K → Type 0
TakesAll takes old [] new = old ≡ new
TakesAll {K} takes old (x ∷ xs) new = (mid : K) × takes old x mid × TakesAll takes mid xs new

-- a reason that no bytes show: the source failed, or memory ran out
abbrev pub IsOutside : Why → Type 0
IsOutside why = (why ≡ Read) ⊎ (why ≡ Memory)

-- How an input is read. `whole`: these are all its items. `refused`: after these items it is refused, at this place and
-- for this reason. `begins`: it begins with these items. `place`: the place of the item after these. `breaks`: a call
-- that ends early after these items, for this reason, may report this place.
pub record InputReading (I P : Type 0) : Type 1 where
  pub whole : List I → Type 0
  pub refused : List I → P → Why → Type 0
  pub begins : List I → Type 0
  pub place : List I → P
  pub breaks : List I → P → Why → Type 0

-- by a grammar, from this state on
abbrev pub by_grammar : {S I P : Type 0} → Grammar S I P → S → Mark → List Bool → InputReading I P
by_grammar g s mark text = record {
  whole = λ items. Stream g s mark items text;
  refused = λ items at why. Refused g s mark items text at why;
  begins = λ items. (front : List Bool) × (left : List Bool) × (text ≡ front ++ left) × Joined g s mark items front;
  place = λ items. g.place (state_after g s items);
  breaks = λ items at why. at ≡ g.place (state_after g s items);
}

-- What was returned, and what the receiver took. `errors` counts the errors that the receiver returned, and `calm` says
-- that the source returned none.
pub record Hands {I P K : Type 0} (r : InputReading I P) (takes : K → I → K → Type 0) (errors : K → ℕ) (calm : Type 0) (old new : K) (outcome : Option (P × Why)) : Type 0 where
  -- over only if the input is a stream, and the receiver took exactly its items
  pub done : calm → outcome ≡ None → (items : List I) × r.whole items × TakesAll takes old items new
  -- refused only as the input is, after exactly the items that the receiver took
  pub refused : calm → (at : P) (why : Why) → outcome ≡ Some (at, why) → why ≢ Memory → errors new ≡ errors old → (items : List I) × r.refused items at why × TakesAll takes old items new
  -- in each case: the receiver took items with which the input begins, and if it did not fail, it is in the state after
  -- them
  pub begun : (items : List I) × (mid : K) × r.begins items × TakesAll takes old items mid × (errors new ≡ errors old → mid ≡ new)
  -- if the source failed or memory ran out, this is reported at the place of the item after exactly those that the
  -- receiver took
  pub broken : (at : P) (why : Why) → outcome ≡ Some (at, why) → IsOutside why → (items : List I) × r.begins items × r.breaks items at why × TakesAll takes old items new
  -- if the receiver failed, this is reported at the place of the item that it did not take, and it had taken exactly
  -- the items before
  pub failed : errors old < errors new → (at : P) × (outcome ≡ Some (at, Sink)) × ((items : List I) × (mid : K) × r.begins items × (at ≡ r.place items) × TakesAll takes old items mid)

-- which outcome an input has
pub record Decides {I P : Type 0} (r : InputReading I P) (outcome : Option (P × Why)) : Type 0 where
  -- a stream is not refused, unless memory runs out
  pub accepted : (items : List I) → r.whole items → (at : P) (why : Why) → outcome ≡ Some (at, why) → why ≢ Memory → ⊥
  -- an input that is to be refused is refused
  pub is_refused : (items : List I) (at : P) (why : Why) → r.refused items at why → outcome ≢ None
  -- at exactly its place and for exactly its reason
  pub shown : (items : List I) (at : P) (why : Why) → r.refused items at why → (to : P) (w : Why) → outcome ≡ Some (to, w) → w ≢ Memory → (to ≡ at) × (w ≡ why)

-- no input has two readings: it is one stream, or is refused in one way
pub record ReadsOnce {I P : Type 0} (r : InputReading I P) : Type 0 where
  pub streams : (xs ys : List I) → r.whole xs → r.whole ys → xs ≡ ys
  pub either : (xs ys : List I) (at : P) (why : Why) → r.whole xs → r.refused ys at why → ⊥
  pub refusals : (xs ys : List I) (at to : P) (v w : Why) → r.refused xs at v → r.refused ys to w → (xs ≡ ys) × (at ≡ to) × (v ≡ w)

-- and it has one: it is a stream, or is refused
abbrev pub IsRead : {I P : Type 0} → InputReading I P → Type 0
IsRead {I = I} {P = P} r = ((items : List I) × r.whole items) ⊎ ((items : List I) × (at : P) × (why : Why) × r.refused items at why)

abbrev pub OneReading : {S I P : Type 0} → Grammar S I P → Type 0
OneReading {S = S} g = (s : S) (mark : Mark) (text : List Bool) → ReadsOnce (by_grammar g s mark text)

abbrev pub SomeReading : {S I P : Type 0} → Grammar S I P → Type 0
SomeReading {S = S} g = (s : S) (mark : Mark) (text : List Bool) → IsRead (by_grammar g s mark text)
