-- What a decoder still has to return, and that each call returns the first of it.
use Rattle.std.specs.Prelude.{◌≡◌, ◌≢◌, ℕ, ◌≤◌, ◌<◌, ◌⊎◌, Bool, true, false, List, [], ◌∷◌, ◌++◌, Option, Some, None, Result, Ok, Err, IfOk, IfErr, IfSome}
use Rattle.flac_bits.specs.State.{Rises, without_fence}
use Rattle.flac_bits.specs.Items.{state_after}
use Rattle.flac_bits.specs.Handing.{TakesAll, reason_of, outcome_of, IsOutside}
use Rattle.flac_bits.specs.Reasons.{of_output}
use Rattle.flac_bits.specs.declared.why.Why.{Why}
use Rattle.flac_bits.specs.declared.why.Why.TheVariants.{Memory, Read, Spent}
use Rattle.flac_frame.specs.Viewed.{frame_of}
use Rattle.flac_header.specs.declared.subset.Profile.{Profile}
use Rattle.flac_native.specs.Stream.{Piece, marked, block, framed, Progress, grammar, opening}
use Rattle.flac_native.specs.Track.{IsAt, AreAtFrames, is_after_blocks, piece_of, stand_of}
use Rattle.flac_native.specs.Item.{Item, metadata, frame, fault_pair}
use Rattle.flac_native.specs.Coming.{Coming, EndsEarly, HandsFirst}
use Rattle.flac_native.specs.Decoding.{taken}
use Rattle.flac_native.specs.declared.fault.Place.{Place}
use Rattle.flac_native.specs.declared.fault.Fault.{Fault}
use Rattle.flac_native.specs.declared.container.Part.{Part}
use Rattle.flac_native.specs.declared.track.Phase.TheVariants.{Opening, Frames}
use Rattle.flac_native.specs.declared.track.Track.{Track}
use Rattle.flac_native.specs.declared.decoder.Course.{Course}
use Rattle.flac_native.specs.declared.decoder.Course.TheVariants as course
use Rattle.flac_native.specs.declared.container.Container as container
use Rattle.flac_native.specs.declared.decoder.Decoder.{Decoder}
use Rattle.flac_native.specs.declared.item.Item.{Item as BorrowedItem}
use Rattle.flac_native.specs.declared.item.Item.TheVariants as borrowed_item

-- a decoder returns the blocks and frames of a stream, but not the marker
abbrev pub handed : Piece → Option Item
handed marked = None
handed (block last b) = Some (metadata b)
handed (framed f) = Some (frame f)

abbrev pub before : Option Item → List Item → List Item
before None items = items
before (Some x) items = x ∷ items

abbrev pub items_of : List Piece → List Item
items_of [] = []
items_of (x ∷ xs) = before (handed x) (items_of xs)

-- ---- what is still to come

-- these items, and then the end of the stream, or its refusal
abbrev pub StillGives : Coming → Progress → List Item → Option (Place × Why) → Type 0
StillGives gives p items end = (parts : List Piece) × (items ≡ items_of parts) × gives p parts end

-- ---- what a container gave

-- A container gave these parts, by calls one after another.
abbrev pub Gave : {C : Type 0} → container.Ghosts C → C → List Piece → C → Type 0
Gave g old parts new = TakesAll (λ c _ d. g.gave c d) old parts new

-- A container gave these parts and then ended early, for this reason, which is reported at this place.
abbrev pub BreaksAfter : {C : Type 0} → container.Ghosts C → Progress → C → C → List Piece → Place → Why → Type 0
BreaksAfter {C} g p old new parts at why = g.breaks new (state_after grammar p parts) at why × ((there : C) × Gave g old parts there × g.broke there new why)

-- A call that passes parts to a receiver ended early, by an error of the device or because memory ran out: the place is
-- the one that the container reports after the parts that the receiver took, whatever is known of its bytes. `counts`:
-- whether the errors of the receiver are counted.
abbrev pub EndsEarlyAfter : {C K : Type 0} → container.Ghosts C → (K → Piece → K → Type 0) → Progress → C → (counts : Bool) → K → K → Fault → Type 0
EndsEarlyAfter g takes p end counts old new f = IsOutside f.why
    → (q : Progress) × g.breaks end q f.at f.why × (counts ≡ true → (parts : List Piece) × TakesAll takes old parts new × (q ≡ state_after grammar p parts))

-- The same from the progress of this track on, of a call that passes the items to a sink.
abbrev pub EndsEarlyInPlace : {C K X : Type 0} → container.Ghosts C → (known : K → Bool) → (takes : K → Item → K → Type 0) → Track → C → K → K → Result X Fault → Type 0
EndsEarlyInPlace g known takes track end from to result = (p : Progress) → IsAt track p → IfErr result (EndsEarlyAfter g (taken takes) p end (known from) from to)

-- A call that passes the parts of a native stream to a receiver ended early: the place is that of the part after those
-- that the receiver took.
abbrev pub EndsEarlyInStream : {K : Type 0} → (K → Piece → K → Type 0) → Profile → K → K → Fault → Type 0
EndsEarlyInStream takes profile old new f = IsOutside f.why → (items : List Piece) × TakesAll takes old items new × EndsEarly (state_after grammar (opening profile) items) f.at f.why

-- From this progress on a container gave these parts. If its bytes are known, they are the first of what was still to
-- come, and the others still are.
pub record PassesParts {C : Type 0} (g : container.Ghosts C) (p : Progress) (old : C) (parts : List Piece) (new : C) : Type 0 where
  pub gave : Gave g old parts new
  pub known : g.known old ≡ true → g.known new ≡ true
  pub first : g.known old ≡ true → (all : List Piece) (end : Option (Place × Why)) → g.gives old p all end → (left : List Piece) × (all ≡ parts ++ left) × g.gives new (state_after grammar p parts) left end

-- the device returned no error in a call, foretold or not
abbrev pub NoErrorIn : {C : Type 0} → container.Ghosts C → C → C → Type 0
NoErrorIn g old new = (g.errors new ≡ g.errors old) × (g.raised new ≡ g.raised old)

-- A call passed the first of the parts to come to a sink, `from` before it and `to` after it, if these parts are known
-- and what the sink takes.
abbrev pub HandsParts : {C K X : Type 0} → container.Ghosts C → (known : K → Bool) → (takes : K → Item → K → Type 0) → (errors : K → ℕ) → Track → C → C → K → K → Result X Fault → Type 0
HandsParts g known takes errors track old new from to result =
    (p : Progress) → IsAt track p → g.known old ≡ true → known from ≡ true → (parts : List Piece) (end : Option (Place × Why)) → g.gives old p parts end
    → HandsFirst (taken takes) errors p parts end (NoErrorIn g old new) (BreaksAfter g p old new) from to (outcome_of fault_pair result)

-- none was met at all, and what is still to come stays known
abbrev pub MetNone : {C : Type 0} → container.Ghosts C → C → C → Type 0
MetNone g old new = (g.known old ≡ true → g.known new ≡ true) × (g.errors new ≡ g.errors old) × (g.raised new ≡ g.raised old) × (g.met new ≡ g.met old)

-- a container whose bytes are known has these parts first
abbrev pub HasFirst : {C : Type 0} → container.Ghosts C → Progress → C → List Piece → Type 0
HasFirst g p c parts = g.known c ≡ true → (all : List Piece) (end : Option (Place × Why)) → g.gives c p all end → (left : List Piece) × (all ≡ parts ++ left)

-- ---- what a call returns

-- nothing is left but the end
abbrev pub EndsBy : Option (Place × Why) → Result (Option Item) Fault → Type 0
EndsBy None result = result ≡ Ok None
EndsBy (Some f) result = result ≡ Err (record { at = f.0; why = f.1 })

-- the first of these items, or else the end; the others are still to come
abbrev pub IsFirst : Coming → List Item → Option (Place × Why) → Result (Option Item) Fault → Track → Type 0
IsFirst gives [] end result track = EndsBy end result
IsFirst gives (x ∷ xs) end result track = (result ≡ Ok (Some x)) × (q : Progress) × IsAt track q × StillGives gives q xs end

abbrev pub seen_by : {X : Type 0} → (X → Option Item) → Result X Fault → Result (Option Item) Fault
seen_by view (Ok x) = Ok (view x)
seen_by view (Err f) = Err f

-- A call returns the first of what is still to come, if the bytes of the source are known, it returned no error in the
-- call, and memory did not run out.
abbrev pub GivesFirst : {C X : Type 0} → container.Ghosts C → Progress → C → C → Track → (X → Option Item) → Result X Fault → Type 0
GivesFirst g p old new track view result =
    g.known old ≡ true → g.errors new ≡ g.errors old → g.raised new ≡ g.raised old → (reason_of fault_pair result ≡ Err Memory → ⊥)
    → (items : List Item) (end : Option (Place × Why)) → StillGives (g.gives old) p items end → IsFirst (g.gives new) items end (seen_by view result) track

-- Errors of the device are counted: a call that returns a value met none, and one that returns Read met one, unless it
-- was foretold, which is not counted. Each that is returned raises the count, if it can rise, and none is of the
-- output. What comes after the bytes to come stays, and so do the references that the container goes through.
pub record CountsIn {C X : Type 0} (g : container.Ghosts C) (track : Track) (old new : C) (result : Result X Fault) : Type 0 where
  pub met : IfOk result (λ _. MetNone g old new)
  pub kept : g.errors old ≤ g.errors new
  pub read : IfErr result (λ f. g.known old ≡ true → f.why ≡ Read → g.clear old track → g.raised old < g.raised new)
  pub risen : IfErr result (λ f. f.why ≡ Read → Rises (g.met old) (g.met new))
  pub output : IfErr result (λ f. of_output f.why ≡ false)
  pub after : g.known old ≡ true → g.errors new ≡ g.errors old → g.after new ≡ without_fence (g.after old)
  pub names : g.names new ≡ g.names old

-- what a call reads before the part of its item: nothing, or at the start of the stream the marker
abbrev pub IsBeforeItem : Progress → List Piece → Type 0
IsBeforeItem p parts = (parts ≡ []) ⊎ ((p.stand.phase ≡ Opening) × (parts ≡ marked ∷ []))

-- A call that gave this item read its part, and at the start of the stream the marker before it.
pub record PassesItem {C : Type 0} (g : container.Ghosts C) (p : Progress) (old new : C) (track : Track) (item : Item) : Type 0 where
  pub front : List Piece
  pub before : IsBeforeItem p front
  pub part : Piece
  pub shown : handed part ≡ Some item
  pub passes : PassesParts g p old (front ++ part ∷ []) new
  pub at : IsAt track (state_after grammar p (front ++ part ∷ []))

-- A call that ended early, by an error of the device or because memory ran out, read at most the marker: the place is
-- that of the part after it.
pub record BreaksOff {C : Type 0} (g : container.Ghosts C) (p : Progress) (old new : C) (f : Fault) : Type 0 where
  pub front : List Piece
  pub before : IsBeforeItem p front
  pub first : HasFirst g p old front
  pub after : BreaksAfter g p old new front f.at f.why

-- the item in a track after a call that read this part
abbrev pub found : Track → Option Part → Option Item
found t None = None
found t (Some p) = handed (piece_of t p)

-- a block comes before the last metadata block was read, a frame and the end after
abbrev pub ComesInOrder : Track → Track → Option Item → Type 0
ComesInOrder old new None = AreAtFrames old new
ComesInOrder old new (Some (metadata b)) = is_after_blocks old.position.phase ≡ false
ComesInOrder old new (Some (frame f)) = AreAtFrames old new

-- the item that is lent
abbrev pub shown_of : BorrowedItem → Option Item
shown_of (borrowed_item.Block b) = Some (metadata b.now)
shown_of (borrowed_item.Frame v) = Some (frame (frame_of v))
shown_of borrowed_item.End = None

-- ---- a decoder

pub record Stage (C : Type 0) : Type 0 where
  pub container : C
  pub track : Track
  pub course : Course

abbrev pub stage_of : {C : Type 0} {g : container.Ghosts C} → Decoder C g → Stage C
stage_of d = record { container = d.container; track = d.track; course = d.course }

abbrev pub held : Course → Track → Option Item
held (course.Read p) t = handed (piece_of t p)
held course.Begun t = None
held course.Over t = None
held (course.Spent at) t = None

-- what a decoder holds: the item that was read last
abbrev pub held_in : {C : Type 0} {g : container.Ghosts C} → Decoder C g → Option Item
held_in d = held d.course d.track

-- A call returned the first of what was still to come, and left the rest. After the end the stream is over, and after a
-- refusal it is spent at that place.
pub record Goes {C X : Type 0} (g : container.Ghosts C) (old new : Stage C) (view : X → Option Item) (result : Result X Fault) : Type 0 where
  pub gives : (p : Progress) → IsAt old.track p → GivesFirst g p old.container new.container new.track view result
  pub counts : CountsIn g old.track old.container new.container result
  -- which parts it read
  pub passes : (p : Progress) → IsAt old.track p → IfOk result (λ x. IfSome (view x) (λ item. PassesItem g p old.container new.container new.track item))
  pub broken : (p : Progress) → IsAt old.track p → IfErr result (λ f. IsOutside f.why → BreaksOff g p old.container new.container f)
  -- memory does not run out after the last block
  pub memory : (stand_of old.track).phase ≡ Frames → IfErr result (λ f. f.why ≢ Memory)
  pub ordered : IfOk result (λ x. ComesInOrder old.track new.track (view x))
  pub going : IfOk result (λ x. IfSome (view x) (λ _. (part : Part) × (new.course ≡ course.Read part)))
  pub ends : seen_by view result ≡ Ok None → new.course ≡ course.Over
  pub refused : IfErr result (λ f. new.course ≡ course.Spent f.at)

-- once the stream is over, this is returned again; once it was refused, a call returns `Spent` at the place of that
-- refusal
abbrev pub MovesFrom : {C X : Type 0} → container.Ghosts C → Course → Stage C → Stage C → (X → Option Item) → Result X Fault → Type 0
MovesFrom g course.Begun old new view result = Goes g old new view result
MovesFrom g (course.Read part) old new view result = Goes g old new view result
MovesFrom g course.Over old new view result = (seen_by view result ≡ Ok None) × (new ≡ old)
MovesFrom g (course.Spent at) old new view result = (seen_by view result ≡ Err (record { at = at; why = Spent })) × (new ≡ old)

-- a call of a decoder with this result, seen by view
abbrev pub Moves : {C X : Type 0} → container.Ghosts C → Stage C → Stage C → (X → Option Item) → Result X Fault → Type 0
Moves g old new view result = MovesFrom g old.course old new view result

-- the same of a call that lends the item
abbrev pub Lends : {C : Type 0} (g : container.Ghosts C) → Decoder C g → Decoder C g → Result BorrowedItem Fault → Type 0
Lends g old new result = Moves g (stage_of old) (stage_of new) shown_of result
