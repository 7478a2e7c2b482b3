-- For proofs of decoding: what a track keeps of a packet, and what a call returns that reads the next one.
use Rattle.std.specs.Prelude.{◌≡◌, ◌≢◌, ◌+◌, ℕ, length, true, false, Option, Some, None, Result, Ok, Err}
use Rattle.flac_bits.specs.Layout.{Layout, ◌>>=◌}
use Rattle.flac_bits.specs.Fencing.{lifted}
use Rattle.flac_bits.specs.Reading.{ReadsGivenMemory, Call, CallInPlace}
use Rattle.flac_bits.specs.State.{State}
use Rattle.flac_bits.specs.Within.{ReadsWithin}
use Rattle.flac_bits.specs.declared.why.Why.{Why}
use Rattle.flac_bits.specs.declared.why.Why.TheVariants.{Memory}
use Rattle.flac_bits.specs.inner.Within.{ReadsWithinGivenMemory}
use Rattle.flac_native.specs.Stream.{Piece, Stand, Progress, next, layout_in, room_in, frame_after}
use Rattle.flac_native.specs.Track.{IsAt, IsInOrder, is_after_blocks, piece_of, kept, shown, stand_of}
use Rattle.flac_native.specs.declared.container.Part.{Part}
use Rattle.flac_native.specs.declared.fault.Fault.{Fault}
use Rattle.flac_native.specs.declared.track.Phase.TheVariants.{Opening, Blocks, Frames}
use Rattle.flac_native.specs.declared.track.Track.{Track}
use Rattle.flac_pages.specs.Items.{HasAfter, TellsItem, packet_mark, packet_of}
use Rattle.flac_pages.specs.Packets.{Ahead, Met, Place, ahead}
use Rattle.flac_ogg.specs.Decoding.{IsBrokenAt}
use Rattle.flac_ogg.specs.Mapping.{mapping, packet_layout}
use Rattle.flac_ogg.specs.Steps.{PacketStep, item, over, refused, packet_step, without_packet}
use Rattle.flac_ogg.specs.Stream.{last_fault}
use Rattle.flac_ogg.specs.Telling.{IsUnderWay}

-- ---- what comes next

-- a packet's block, in this state
abbrev pub block_packet : Stand → Layout Piece
block_packet s = layout_in Blocks s

-- and the first one
abbrev pub first_packet : Stand → Layout Piece
first_packet s = mapping >>= λ _. block_packet s

-- ---- the track

-- it is in the state after this piece, if it was in the state before
abbrev pub TrackGoesOn : (old new : Track) → Piece → Type 0
TrackGoesOn old new x = (p : Progress) → IsAt old p → IsAt new (next p x)

-- a block comes in its phase, and a frame in its
abbrev pub BlockInOrder : Part → (old new : Track) → Type 0
BlockInOrder part old new = is_after_blocks (stand_of old).phase ≡ false → IsInOrder (Some part) old new

abbrev pub FrameInOrder : Part → (old new : Track) → Type 0
FrameInOrder part old new = (stand_of old).phase ≡ Frames → IsInOrder (Some part) old new

-- ---- what is read of a packet's bits, and is kept in the track

abbrev pub ReadsBlock : {X : Type 0} → Track → Stand → State → State → Result X Why → Type 0
ReadsBlock t s old new result = Call 32 (ReadsGivenMemory (λ _. kept t) (layout_in Blocks s)) old new result

abbrev pub GivesBlockPart : Track → Layout Piece → State → State → Result Part Why → Type 0
GivesBlockPart t layout old new result = ReadsGivenMemory (λ part. piece_of t part) layout old new result

-- a frame, which has at most 2^24 - 1 bytes (RFC 9639, section 8.2)
abbrev pub GivesFramePart : Track → Stand → State → State → Result Part Why → Type 0
GivesFramePart t s old new result = ReadsWithin (Some 16777215) (λ part. piece_of t part) (layout_in Frames s) old new result

abbrev pub ReadsFrame : {X : Type 0} → Track → Stand → State → State → Result X Why → Type 0
ReadsFrame t s old new result = CallInPlace 40 (λ _. ReadsWithin (Some 16777215) (λ _. shown t) (frame_after s.profile s.info s.before) old) (lifted old) new result

-- the packet's block or frame, in this state
abbrev pub GivesPacket : Track → Stand → State → State → Result Part Why → Type 0
GivesPacket t s old new result = s.phase ≢ Opening → ReadsWithinGivenMemory (room_in s.phase) (λ part. piece_of t part) (packet_layout s) old new result

-- ---- the pages

-- the bytes stay known, and the device returned no unexpected error
abbrev pub StaysGood : (old new : Place) → Type 0
StaysGood old new = (old.known ≡ true → new.known ≡ true) × (new.errors ≡ old.errors)

-- a number that falls with each packet
abbrev pub most_left : Place → ℕ
most_left p = p.most + length p.body

-- in this state they are after a packet, and still have what was after it
abbrev pub IsAfterPacket : Stand → (old new : Place) → Type 0
IsAfterPacket s old new = s.phase ≢ Opening → old.known ≡ true → HasAfter old new

-- ---- what a call over one packet returns

-- in this state the packet is the item that the track has, or is none for this reason, unless memory ran out
abbrev pub TellsPart : Track → Stand → (old new : Place) → Result Part (Option ℕ × Why) → Type 0
TellsPart t s old new result =
    s.phase ≢ Opening → old.known ≡ true → new.errors ≡ old.errors → (result ≡ Err (None, Memory) → ⊥)
    → TellsItem (λ part. piece_of t part) (room_in s.phase) (packet_layout s) (packet_mark old) (packet_of old) result

-- the result of a call that reads the next packet is what the step gives, unless memory ran out
abbrev pub StepIs : {X : Type 0} → (X → Piece) → PacketStep → Ahead → Result (Option X) Fault → Type 0
StepIs view step a (Ok None) = step ≡ over
StepIs view step a (Ok (Some x)) = step ≡ item (view x) a
StepIs view step a (Err f) = f.why ≢ Memory → step ≡ refused f.at f.why

-- Errors of the device are counted: a call that returns a value met none, and one that returns Read met one.
abbrev pub MeetsIn : {X : Type 0} → ℕ → ℕ → Result X Fault → Type 0
MeetsIn old new (Ok x) = new ≡ old
MeetsIn old new (Err f) = Met f.why old new

-- and the result if no packet is left
abbrev pub EndIs : {X : Type 0} → PacketStep → Result X Fault → Type 0
EndIs step (Ok x) = step ≡ over
EndIs step (Err f) = step ≡ refused f.at f.why

-- The call goes from one state of the track, and from what good pages have there, by the step to the next, if the bytes
-- are known and the device returned no unexpected error.
abbrev pub StepsOn : (old new : Track) → (before after : Place) → Result (Option Part) Fault → Type 0
StepsOn old new before after result =
    (p : Progress) → IsAt old p → IsUnderWay p.stand → before.known ≡ true → after.errors ≡ before.errors
    → StepIs (λ part. piece_of new part) (packet_step p (ahead before)) (ahead after) result

-- the fault is that of no packet being left, where these faults end the pages
abbrev pub IsLastFault : Track → (fault stop : Option (ℕ × Why)) → Fault → Type 0
IsLastFault t fault stop f = (p : Progress) → IsAt t p → IsUnderWay p.stand → without_packet p (last_fault p fault stop) ≡ refused f.at f.why

-- this fault ends the reading of the next item early
abbrev pub IsBrokenBy : Place → Progress → Fault → Type 0
IsBrokenBy q p f = IsBrokenAt q.count p f.at f.why
