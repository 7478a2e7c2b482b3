-- What a decoder still has to return, and what a reader returns of it: the metadata blocks at once, and then one frame
-- after another.
use Rattle.std.specs.Prelude.{◌≡◌, ◌≤◌, ℕ, Bool, true, false, List, [], ◌∷◌, ◌++◌, map, filter, Option, Some, None, Result, Ok, Err, IfOk, IfErr, ⊤}
use Rattle.flac_bits.specs.Reasons.{of_output}
use Rattle.flac_bits.specs.State.{Rises}
use Rattle.flac_bits.specs.Handing.{reason_of}
use Rattle.flac_bits.specs.declared.why.Why.{Why}
use Rattle.flac_bits.specs.declared.why.Why.TheVariants.{Memory, Read, Spent}
use Rattle.flac_meta.specs.declared.block.Block.{Block}
use Rattle.flac_frame.specs.Frame.{Frame}
use Rattle.flac_frame.specs.Viewed.{frame_of}
use Rattle.flac_frame.specs.declared.view.FrameView.{FrameView}
use Rattle.flac_native.specs.Stream.{Progress}
use Rattle.flac_native.specs.Track.{IsAt, stand_of}
use Rattle.flac_native.specs.Item.{Item, metadata, frame, fault_pair}
use Rattle.flac_native.specs.Giving.{StillGives, EndsBy, Stage, stage_of, held, seen_by}
use Rattle.flac_native.specs.declared.fault.Place.{Place}
use Rattle.flac_native.specs.declared.fault.Fault.{Fault}
use Rattle.flac_native.specs.declared.decoder.Course.{Course}
use Rattle.flac_native.specs.declared.decoder.Decoder.{Decoder}
use Rattle.flac_native.specs.declared.decoder.Course.TheVariants as course
use Rattle.flac_native.specs.declared.track.Phase.TheVariants.{Frames}
use Rattle.flac_native.specs.declared.container.Container as container
use Rattle.flac_reader.specs.Kept.{keeps}
use Rattle.flac_reader.specs.Starting.{frames_start}
use Rattle.flac_reader.specs.declared.keep.Keep.{Keep}

-- ---- a decoder

-- the item that was read last
abbrev pub item_in : {C : Type 0} → Stage C → Option Item
item_in s = held s.course s.track

-- A decoder still has to return these items, and then the end of the stream, or its refusal. After the end each call
-- returns the end again, and after a refusal it reports that it is spent, at the place of that refusal.
abbrev pub ComesAfter : {C : Type 0} → container.Ghosts C → Course → Stage C → List Item → Option (Place × Why) → Type 0
ComesAfter g course.Begun s items end = (p : Progress) × IsAt s.track p × StillGives (g.gives s.container) p items end
ComesAfter g (course.Read part) s items end = (p : Progress) × IsAt s.track p × StillGives (g.gives s.container) p items end
ComesAfter g course.Over s items end = (items ≡ []) × (end ≡ None)
ComesAfter g (course.Spent at) s items end = (items ≡ []) × (end ≡ Some (at, Spent))

abbrev pub Comes : {C : Type 0} → container.Ghosts C → Stage C → List Item → Option (Place × Why) → Type 0
Comes g s items end = ComesAfter g s.course s items end

-- what comes once this end was returned
abbrev pub again : Option (Place × Why) → Option (Place × Why)
again None = None
again (Some f) = Some (f.0, Spent)

-- the call returned the first of these items, or else the end, and the others are still to come
abbrev pub IsFirst : {C : Type 0} → container.Ghosts C → List Item → Option (Place × Why) → Result (Option Item) Fault → Stage C → Type 0
IsFirst g [] end answer s = EndsBy end answer × Comes g s [] (again end)
IsFirst g (x ∷ xs) end answer s = (answer ≡ Ok (Some x)) × Comes g s xs end

-- the bytes of the source are known, and it returned no error
abbrev pub IsCalm : {C : Type 0} → container.Ghosts C → Stage C → Stage C → Type 0
IsCalm g old new = (g.known old.container ≡ true) × (g.errors new.container ≡ g.errors old.container) × (g.raised new.container ≡ g.raised old.container)

-- memory did not run out
abbrev pub HadMemory : {X : Type 0} → Result X Fault → Type 0
HadMemory result = reason_of fault_pair result ≡ Err Memory → ⊥

-- Errors of the device are counted: a call that returns a value met none, and one that returns Read raises the count,
-- if it can rise. No call returns an error of the output. The references that the container goes through stay.
pub record Counted {C X : Type 0} (g : container.Ghosts C) (old new : Stage C) (result : Result X Fault) : Type 0 where
  pub met : IfOk result (λ _. (g.known old.container ≡ true → g.known new.container ≡ true) × (g.errors new.container ≡ g.errors old.container) × (g.raised new.container ≡ g.raised old.container) × (g.met new.container ≡ g.met old.container))
  pub kept : g.errors old.container ≤ g.errors new.container
  pub risen : IfErr result (λ f. f.why ≡ Read → Rises (g.met old.container) (g.met new.container))
  pub output : IfErr result (λ f. of_output f.why ≡ false)
  pub names : g.names new.container ≡ g.names old.container

-- the last metadata block was read, so that only frames and the end are still to come
abbrev pub IsPast : {C : Type 0} → Stage C → Type 0
IsPast s = (stand_of s.track).phase ≡ Frames

-- ---- the metadata

-- blocks, and frames after them
abbrev pub stream_items : List Block → List Frame → List Item
stream_items blocks frames = map metadata blocks ++ map frame frames

-- ---- the frames

-- A reader still has to return these frames, and then this end. It may have read the first of them ahead.
abbrev pub FramesCome : {C : Type 0} → container.Ghosts C → (ahead : Bool) → Stage C → List Frame → Option (Place × Why) → Type 0
FramesCome g false s frames end = Comes g s (map frame frames) end
FramesCome g true s frames end = IsFirst g (map frame frames) end (Ok (held s.course s.track)) s

-- the frame that is lent
abbrev pub lent : Option FrameView → Option Item
lent None = None
lent (Some v) = Some (frame (frame_of v))

-- a frame, and no block
abbrev pub only_frame : Option Item → Option Item
only_frame None = None
only_frame (Some (metadata b)) = None
only_frame (Some (frame f)) = Some (frame f)

-- how many samples of each channel
abbrev pub size_of : Option Item → ℕ
size_of None = 0
size_of (Some (metadata b)) = 0
size_of (Some (frame f)) = f.size

-- the result of a call, seen by view, is the first of the frames that were still to come, or else the end
abbrev pub GivesFrame : {C X : Type 0} → container.Ghosts C → (ahead : Bool) → Stage C → Stage C → (X → Option Item) → Result X Fault → Type 0
GivesFrame g ahead old new view result =
    IsCalm g old new → HadMemory result → (frames : List Frame) (end : Option (Place × Why)) → FramesCome g ahead old frames end → IsFirst g (map frame frames) end (seen_by view result) new

-- the same of a call that reads one frame, which the decoder holds then
abbrev pub ReadsFrame : {C X : Type 0} → container.Ghosts C → (ahead : Bool) → Stage C → Stage C → Result X Fault → Type 0
ReadsFrame g ahead old new result = GivesFrame g ahead old new (λ _. item_in new) result

-- ---- the metadata and the frames

-- this holds of the blocks, the frames and the end that a decoder still has to return
abbrev pub OfItems : {C : Type 0} → container.Ghosts C → Stage C → (List Block → List Frame → Option (Place × Why) → Type 0) → Type 0
OfItems g s holds = (blocks : List Block) (frames : List Frame) (end : Option (Place × Why)) → Comes g s (stream_items blocks frames) end → holds blocks frames end

-- a call read all blocks, and the wanted ones are kept, unless the stream was refused before its first frame
abbrev pub HeadIs : {C : Type 0} → container.Ghosts C → Keep → List Block → List Frame → Option (Place × Why) → List Block → Result ⊤ Fault → Stage C → Type 0
HeadIs g keep blocks frames end kept (Ok x) s = (kept ≡ filter (keeps keep) blocks) × FramesCome g true s frames end
HeadIs g keep blocks frames end kept (Err f) s = (frames ≡ []) × (end ≡ Some (fault_pair f))

-- the same of all that a decoder still has to return, if the source returned no error and memory did not run out
abbrev pub ReadsBlocks : {C : Type 0} → container.Ghosts C → (old new : Stage C) → Keep → List Block → Result ⊤ Fault → Type 0
ReadsBlocks g old new keep kept result = IsCalm g old new → HadMemory result → OfItems g old (λ blocks frames end. HeadIs g keep blocks frames end kept result new)

-- The metadata was read from old on, of a source whose bytes are known: the wanted blocks are kept, the frames come
-- next, and the bytes before them are counted. No error was met.
pub record HeadOf {C : Type 0} (g : container.Ghosts C) (old new : Stage C) (keep : Keep) (kept : List Block) (ahead : Bool) (start : ℕ) : Type 0 where
  pub known : g.known old.container ≡ true → g.known new.container ≡ true
  pub errors : g.errors new.container ≡ g.errors old.container
  pub raised : g.raised new.container ≡ g.raised old.container
  pub met : g.met new.container ≡ g.met old.container
  pub names : g.names new.container ≡ g.names old.container
  pub blocks : g.known old.container ≡ true → OfItems g old (λ blocks frames end. kept ≡ filter (keeps keep) blocks)
  pub frames : g.known old.container ≡ true → OfItems g old (λ blocks frames end. FramesCome g ahead new frames end)
  pub counted : g.known old.container ≡ true → OfItems g old (λ blocks frames end. start ≡ frames_start blocks)

-- the same of a decoder before and after
abbrev pub ReadsHead : {C : Type 0} {g : container.Ghosts C} → (old new : Decoder C g) → Keep → (kept : List Block) → (ahead : Bool) → (start : ℕ) → Type 0
ReadsHead {g = g} old new keep kept ahead start = HeadOf g (stage_of old) (stage_of new) keep kept ahead start
