-- For proofs of a decoder: what reading one part does to a reader and a track, and reading one item to a container.
-- They are `old` before the call and `new` after it, the track `before` and `after`.
use Rattle.std.specs.Prelude.{◌≡◌, ◌≤◌, ◌+◌, ◌&&◌, Bool, true, Option, Result, IfOk, IfErr, IfSome, MatchOption}
use Rattle.flac_bits.specs.Bits.{is_nil}
use Rattle.flac_bits.specs.State.{State}
use Rattle.flac_bits.specs.Fencing.{lifted}
use Rattle.flac_bits.specs.Handing.{IsOutside}
use Rattle.flac_bits.specs.inner.Handing.{StepsTo}
use Rattle.flac_bits.specs.inner.Items.{step_at}
use Rattle.flac_bits.specs.inner.Within.{ReadsWithinGivenMemory}
use Rattle.flac_bits.specs.declared.why.Why.{Why}
use Rattle.flac_native.specs.Stream.{Progress, grammar, layout, room_in, may_end_in}
use Rattle.flac_native.specs.Track.{IsAt, piece_of, stand_of, info_in}
use Rattle.flac_native.specs.Item.{fault_pair}
use Rattle.flac_native.specs.Giving.{GivesFirst, PassesItem, BreaksOff, found}
use Rattle.flac_native.specs.declared.container.Container as container
use Rattle.flac_native.specs.declared.container.Part.{Part}
use Rattle.flac_native.specs.declared.fault.Fault.{Fault}
use Rattle.flac_native.specs.declared.track.Track.{Track}

-- ---- a reader

-- the next part was read, and is kept in the track
abbrev pub ReadsNextPart : Track → Track → State → State → Result Part Why → Type 0
ReadsNextPart before after old new result = ReadsWithinGivenMemory (room_in (stand_of before).phase) (λ part. piece_of after part) (layout (stand_of before)) old new result

-- whether the stream ends here, if the bytes are known: nothing was read then
abbrev pub SaysEnded : Track → State → State → Bool → Type 0
SaysEnded t old new over = old.known ≡ true → (new.cursor ≡ old.cursor) × (over ≡ (may_end_in (stand_of t).phase (info_in t.format) && is_nil old.cursor.left))

-- a part has at least 32 bits
abbrev pub SpendsPart : State → State → Option Part → Type 0
SpendsPart old new o = MatchOption o (new.most ≤ old.most) (λ _. new.most + 32 ≤ old.most)

-- the next part was read, or the end, or it was refused, as the grammar of a stream says
abbrev pub StepsOn : Track → Track → State → State → Result (Option Part) Fault → Type 0
StepsOn before after old new result =
    (p : Progress) → IsAt before p → StepsTo (λ part. piece_of after part) fault_pair (step_at grammar p (lifted old).cursor) (lifted old) new result

-- ---- a container

-- the first of the items to come was returned
abbrev pub GivesFirstItem : {C : Type 0} → container.Ghosts C → Track → Track → C → C → Result (Option Part) Fault → Type 0
GivesFirstItem g before after old new result = (p : Progress) → IsAt before p → GivesFirst g p old new after (λ o. found after o) result

-- its part was read, and at the start the marker before it
abbrev pub PassesFirstItem : {C : Type 0} → container.Ghosts C → Track → Track → C → C → Result (Option Part) Fault → Type 0
PassesFirstItem g before after old new result = (p : Progress) → IsAt before p → IfOk result (λ o. IfSome (found after o) (λ item. PassesItem g p old new after item))

-- an error of the device or of an allocation is reported at the place of the part after what was read
abbrev pub BreaksInItem : {C : Type 0} → container.Ghosts C → Track → C → C → Result (Option Part) Fault → Type 0
BreaksInItem g before old new result = (p : Progress) → IsAt before p → IfErr result (λ f. IsOutside f.why → BreaksOff g p old new f)
