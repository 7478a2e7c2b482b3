-- What a track keeps of the parts so far.
use Rattle.std.specs.Prelude.{◌≡◌, min, Bool, true, false, [], Option, Some, None, is_some, Result}
use Rattle.flac_bits.specs.State.{State}
use Rattle.flac_bits.specs.Reading.{Call, CallInPlace, MeansGivenMemory, ReadsGivenMemory}
use Rattle.flac_bits.specs.Fencing.{lifted}
use Rattle.flac_bits.specs.Within.{MeansWithin, ReadsWithin}
use Rattle.flac_bits.specs.declared.why.Why.{Why}
use Rattle.flac_header.specs.declared.subset.Profile.{Profile}
use Rattle.flac_info.specs.Info.{Info}
use Rattle.flac_meta.specs.declared.block.Block.{Block}
use Rattle.flac_frame.specs.Frame.{Frame, frame, after_frame}
use Rattle.flac_frame.specs.declared.before.Before.{Before}
use Rattle.flac_native.specs.Stream.{Piece, marked, block, framed, frame_after, layout_in, next, Stand, Progress}
use Rattle.flac_native.specs.declared.format.Format.{Format}
use Rattle.flac_native.specs.declared.position.Position.{Position}
use Rattle.flac_native.specs.declared.track.Track.{Track}
use Rattle.flac_native.specs.declared.decoder.Course.{Course}
use Rattle.flac_native.specs.declared.decoder.Course.TheVariants as course
use Rattle.flac_native.specs.declared.container.Part.{Part}
use Rattle.flac_native.specs.declared.container.Part.TheVariants as part
use Rattle.flac_native.specs.declared.track.Phase.{Phase}
use Rattle.flac_native.specs.declared.track.Phase.TheVariants as phase
use Rattle.md5.specs.Md5.{Holds}

abbrev pub info_in : Option Format → Option Info
info_in None = None
info_in (Some f) = Some f.info

abbrev pub before_in : Option Format → Option Before
before_in None = None
before_in (Some f) = f.buffers.before

-- once STREAMINFO was read, the profile is that of the buffers for its frames
abbrev pub profile_in : Profile → Option Format → Profile
profile_in profile None = profile
profile_in profile (Some f) = f.profile

-- the profile by which the next frames are checked
abbrev pub profile_of : Track → Profile
profile_of t = profile_in t.profile t.format

-- which part comes next
abbrev pub stand_of : Track → Stand
stand_of t = record { profile = profile_in t.profile t.format; phase = t.position.phase; index = t.position.index; seen = t.position.seen; info = info_in t.format; before = before_in t.format }

-- the part of this that reading the marker and the metadata depends on
abbrev pub position_of : Stand → Position
position_of s = record { phase = s.phase; index = s.index; seen = s.seen }

-- the last metadata block was read, so that only frames are still to come
abbrev pub is_after_blocks : Phase → Bool
is_after_blocks phase.Opening = false
is_after_blocks phase.Blocks = false
is_after_blocks phase.Frames = true

abbrev pub no_frame : Frame
no_frame = record { number = 0; variable = false; size = 0; channels = [] }

-- the frame that was read last
abbrev pub shown_in : Option Format → Frame
shown_in None = no_frame
shown_in (Some f) = f.buffers.held

abbrev pub shown : Track → Frame
shown t = shown_in t.format

abbrev pub block_in : Bool → Option Block → Piece
block_in last None = marked
block_in last (Some b) = block last b

-- the block that was read last
abbrev pub kept : Track → Piece
kept t = block_in t.last t.block

-- the part that was read last
abbrev pub piece_of : Track → Part → Piece
piece_of t part.Marker = marked
piece_of t part.Block = block_in t.last t.block
piece_of t part.Frame = framed (shown t)

-- The track is at this progress: the count of samples stops at 2^64 - 1, and the hasher has taken the MD5 input.
pub record IsAt (t : Track) (p : Progress) : Type 0 where
  pub stand : stand_of t ≡ p.stand
  pub samples : t.samples ≡ min p.samples 18446744073709551615
  pub digest : Holds t.hasher p.message

-- this part was read into a track, wherever it was
abbrev pub ReadsPart : Track → Piece → Track → Type 0
ReadsPart old x new = (p : Progress) → IsAt old p → IsAt new (next p x)

-- A frame that follows this state was read, of at most 16777215 bytes (RFC 9639, section 8.2): what was returned is
-- what the bits mean, and nothing was allocated.
abbrev pub MeansFrame : {X : Type 0} → (X → Frame) → Stand → State → State → Result X Why → Type 0
MeansFrame view s old new result = CallInPlace 40 (λ _. MeansWithin (Some 16777215) view (frame_after s.profile s.info s.before) old) (lifted old) new result

-- the same by the reading of the layout
abbrev pub ReadsFrame : {X : Type 0} → (X → Frame) → Stand → State → State → Result X Why → Type 0
ReadsFrame view s old new result = CallInPlace 40 (λ _. ReadsWithin (Some 16777215) view (frame_after s.profile s.info s.before) old) (lifted old) new result

-- A metadata block that follows this state was read, and is kept in the track: what is kept is what the bits mean.
abbrev pub MeansBlock : {X : Type 0} → Track → Track → State → State → Result X Why → Type 0
MeansBlock before after old new result = Call 32 (MeansGivenMemory (λ _. kept after) (layout_in phase.Blocks (stand_of before))) old new result

-- the same by the reading of the layout
abbrev pub ReadsBlock : {X : Type 0} → Track → Track → State → State → Result X Why → Type 0
ReadsBlock before after old new result = Call 32 (ReadsGivenMemory (λ _. kept after) (layout_in phase.Blocks (stand_of before))) old new result

-- a frame that follows this state was read into the buffers, by the reading of the layout
abbrev pub FillsFrame : {X : Type 0} → Format → Format → State → State → Result X Why → Type 0
FillsFrame before after old new result = CallInPlace 40 (λ _. ReadsWithin (Some 16777215) (λ _. after.buffers.held) (frame before.profile before.info before.buffers.before) old) (lifted old) new result

-- the next frame has to follow the one that was read
abbrev pub FollowsFrame : Format → Format → Type 0
FollowsFrame before after = after.buffers.before ≡ Some (after_frame before.buffers.before after.buffers.held)

-- the part that was read is there; the marker comes only once
abbrev pub IsMadeAs : Part → Track → Track → Type 0
IsMadeAs part.Marker old new = (old.position.phase ≡ phase.Opening) × (new.position.phase ≡ phase.Blocks)
IsMadeAs part.Block old new = is_some new.block ≡ true
IsMadeAs part.Frame old new = is_some new.format ≡ true

-- the last metadata block was read already, and only frames and the end are still to come
abbrev pub AreAtFrames : Track → Track → Type 0
AreAtFrames old new = (old.position.phase ≡ phase.Frames) × (new.position.phase ≡ phase.Frames)

-- Each part comes in its phase: the marker and a block before the last metadata block was read, a frame and the end after.
abbrev pub IsInOrder : Option Part → Track → Track → Type 0
IsInOrder None old new = AreAtFrames old new
IsInOrder (Some part.Marker) old new = is_after_blocks old.position.phase ≡ false
IsInOrder (Some part.Block) old new = is_after_blocks old.position.phase ≡ false
IsInOrder (Some part.Frame) old new = AreAtFrames old new

-- what was read last is there to be lent
abbrev pub is_made : Course → Track → Bool
is_made (course.Read part.Marker) t = false
is_made (course.Read part.Block) t = is_some t.block
is_made (course.Read part.Frame) t = is_some t.format
is_made course.Begun t = true
is_made course.Over t = true
is_made (course.Spent at) t = true

-- a further part may be asked for
abbrev pub is_going : Course → Bool
is_going (course.Read part) = true
is_going course.Begun = true
is_going course.Over = false
is_going (course.Spent at) = false
