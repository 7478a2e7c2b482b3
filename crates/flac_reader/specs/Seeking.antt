-- Seeking a sample in a stream (RFC 9639, sections 8.5 and 9.1.5).
use Rattle.std.specs.Prelude.{◌≡◌, ◌≢◌, ◌⊎◌, ◌≤◌, ◌<◌, ◌^◌, ℕ, ◌+◌, min, Bool, ◌&&◌, nat_le, nat_lt, List, [], ◌∷◌, ◌++◌, true, false, map, take, drop, length, Option, Some, None, Result, Ok, Err, ⊤}
use Rattle.std.specs.List.{list_any}
use Rattle.flac_bits.specs.Bits.{bits_of}
use Rattle.flac_bits.specs.Reasons.{of_output}
use Rattle.flac_bits.specs.State.{Rises, the_end}
use Rattle.flac_bits.specs.Items.{Joined, Stream, state_after}
use Rattle.flac_bits.specs.Handing.{InputReading, by_grammar}
use Rattle.flac_bits.specs.declared.source.Source as source
use Rattle.flac_bits.specs.declared.why.Why.{Why}
use Rattle.flac_bits.specs.declared.why.Why.TheVariants.{Memory, Read, Truncated}
use Rattle.flac_meta.specs.declared.block.Block.{Block}
use Rattle.flac_info.specs.Info.{Info}
use Rattle.flac_meta.specs.SeekTable.{last_before}
use Rattle.flac_meta.specs.declared.seek_table.SeekPoint.{SeekPoint}
use Rattle.flac_header.specs.declared.subset.Profile.{Profile}
use Rattle.flac_frame.specs.Frame.{Frame, first_sample}
use Rattle.flac_native.specs.Decoding.{beginning}
use Rattle.flac_native.specs.Resuming.{resumed}
use Rattle.flac_native.specs.Stream.{Piece, framed, grammar, opening}
use Rattle.flac_native.specs.Item.{Item, metadata, frame, fault_pair}
use Rattle.flac_native.specs.Giving.{Stage, stage_of}
use Rattle.flac_native.specs.declared.fault.Place.{Place}
use Rattle.flac_native.specs.declared.fault.Place.TheVariants as place
use Rattle.flac_native.specs.declared.fault.Fault.{Fault}
use Rattle.flac_native.specs.declared.fault.Refused.{Refused}
use Rattle.flac_native.specs.declared.container.Container as container
use Rattle.flac_reader.specs.Kept.{first_info, first_points}
use Rattle.flac_reader.specs.Starting.{frames_start}
use Rattle.flac_reader.specs.Coming.{FramesCome, item_in}
use Rattle.flac_reader.specs.Inputs.{frame_input}
use Rattle.flac_reader.specs.Opening.{IsReadAs, OfFrames}
use Rattle.flac_reader.specs.declared.reader.Reader.{Reader}

-- ---- a seek table

-- the offset of a point, from the first frame; that of the first frame if there is none
abbrev pub offset_of : Option SeekPoint → ℕ
offset_of None = 0
offset_of (Some p) = p.offset

-- the offset of the last point at or before a sample
abbrev pub offset_before : ℕ → List SeekPoint → ℕ
offset_before sample points = offset_of (last_before sample points)

-- the offset at which a search begins, in bytes from the first of the stream, whose frames start at `start`; it stops
-- at 2^64 - 1
abbrev pub search_start : (start sample : ℕ) → List SeekPoint → ℕ
search_start start sample points = min (start + offset_before sample points) 18446744073709551615

-- the offset of the last point at or before a sample, in the seek table that a reader keeps
abbrev pub point_offset : {C : Type 0} {g : container.Ghosts C} → Reader C g → (sample : ℕ) → ℕ
point_offset reader sample = offset_before sample (first_points reader.blocks.items)

-- where a search for a sample begins by that table, in bytes from the first of the stream
abbrev pub search_offset : {C : Type 0} {g : container.Ghosts C} → Reader C g → (sample : ℕ) → ℕ
search_offset reader sample = search_start reader.start sample (first_points reader.blocks.items)

-- ---- a frame

-- the frame holds the sample of this number
abbrev pub holds : Info → ℕ → Frame → Bool
holds info sample f = nat_le (first_sample info.greatest_block f) sample && nat_lt sample (first_sample info.greatest_block f + f.size)

-- the number of the first sample of a frame that is held, 0 if none is
abbrev pub number_of : Info → Option Item → ℕ
number_of info None = 0
number_of info (Some (metadata b)) = 0
number_of info (Some (frame f)) = first_sample info.greatest_block f

-- none of these frames holds it
abbrev pub PassedBy : Info → ℕ → List Frame → Type 0
PassedBy info sample frames = list_any (holds info sample) frames ≡ false

-- the first of these frames holds it, or there is none
abbrev pub HoldsFirst : Info → ℕ → List Frame → Type 0
HoldsFirst info sample [] = ⊤
HoldsFirst info sample (f ∷ frames) = holds info sample f ≡ true

-- Of these frames, which were to come, the ones before the first that holds the sample were passed by, and that one
-- comes next; if none holds it, all were passed by.
pub record Finds {C : Type 0} (g : container.Ghosts C) (info : Info) (sample : ℕ) (frames : List Frame) (end : Option (Place × Why)) (ahead : Bool) (s : Stage C) : Type 0 where
  pub passed : List Frame
  pub left : List Frame
  pub split : frames ≡ passed ++ left
  pub by : PassedBy info sample passed
  pub holds : HoldsFirst info sample left
  pub come : FramesCome g ahead s left end

-- A reader that was made over this input finds the frame.
abbrev pub Sought : {C : Type 0} {g : container.Ghosts C} → Info → ℕ → InputReading Piece Place → Reader C g → Type 0
Sought {g = g} info sample r reader = OfFrames r (λ frames end. Finds g info sample frames end reader.ahead (stage_of reader.decoder))

-- A reader was made over this input: it finds the frame; or the input is refused after frames that do not hold the
-- sample, unless memory ran out.
abbrev pub SeeksTo : {C : Type 0} {g : container.Ghosts C} → Info → ℕ → InputReading Piece Place → Result (Reader C g) Fault → Type 0
SeeksTo info sample r (Ok reader) = Sought info sample r reader
SeeksTo info sample r (Err f) = f.why ≢ Memory → OfFrames r (λ frames end. PassedBy info sample frames × (end ≡ Some (fault_pair f)))

-- No reader was made over the input of a source, for this reason. An error of the source raised its counts, and none of
-- the output is met; without one, if the input is known and memory did not run out, it is refused after frames that do
-- not hold the sample.
pub record RefusesSeek (info : Info) (sample : ℕ) (r : InputReading Piece Place) (known : Bool) (errors raised errors_left raised_left : ℕ) (f : Fault) : Type 0 where
  pub kept : errors ≤ errors_left
  pub risen : f.why ≡ Read → Rises raised raised_left
  pub output : of_output f.why ≡ false
  pub refused : known ≡ true → errors_left ≡ errors → raised_left ≡ raised → f.why ≢ Memory → OfFrames r (λ frames end. PassedBy info sample frames × (end ≡ Some (fault_pair f)))

-- Both numbers of a reader are that of the first sample of the frame that it read ahead, 0 at the end of the stream.
abbrev pub IsNumbered : {C : Type 0} {g : container.Ghosts C} → Info → Reader C g → Type 0
IsNumbered info reader = (reader.first ≡ reader.after) × (reader.after ≡ number_of info (item_in (stage_of reader.decoder)))

-- memory ran out before anything was read
abbrev pub no_memory : Fault
no_memory = record { at = place.Marker; why = Memory }

-- Memory runs out before a frame is read, or after as many frames as can be counted.
abbrev pub MemoryAtEnds : Fault → Type 0
MemoryAtEnds f = f.why ≡ Memory → (f.at ≡ place.Marker) ⊎ (f.at ≡ place.Frame 18446744073709551615)

-- The same over bytes in memory that begin at a frame, read in a profile by this STREAMINFO.
abbrev pub SeeksBytes : {C : Type 0} {g : container.Ghosts C} → Profile → Info → (sample : ℕ) → (bytes : List ℕ) → Result (Reader C g) Fault → Type 0
SeeksBytes profile info sample bytes result = SeeksTo info sample (frame_input profile info bytes the_end) result

-- The same over a source, if its bytes are known.
abbrev pub SoughtSource : {S C : Type 0} {g : container.Ghosts C} → source.Ghosts S → Profile → Info → (sample : ℕ) → S → Reader C g → Type 0
SoughtSource s profile info sample over reader = s.known over ≡ true → Sought info sample (frame_input profile info (s.coming over) (s.after over)) reader

abbrev pub RefusesSeekSource : {S : Type 0} → source.Ghosts S → Profile → Info → (sample : ℕ) → S → Refused S → Type 0
RefusesSeekSource s profile info sample over x =
    RefusesSeek info sample (frame_input profile info (s.coming over) (s.after over)) (s.known over) (s.errors over) (s.raised over) (s.errors x.left) (s.raised x.left) x.fault

-- ---- in a whole stream

-- The first bytes of a native stream, up to this offset, are all its parts before these frames, and STREAMINFO among
-- them is this.
pub record Cuts (profile : Profile) (stream : List ℕ) (info : Info) (at : ℕ) (frames : List Frame) : Type 0 where
  pub front : List Piece
  pub whole : Stream grammar (opening profile) (beginning Truncated) (front ++ map framed frames) (bits_of stream)
  pub before : Joined grammar (opening profile) (beginning Truncated) front (bits_of (take at stream))
  pub known : (state_after grammar (opening profile) front).stand.info ≡ Some info

-- A reader finds the frame among these, and returns it and all later ones, up to the end of the stream; or memory ran
-- out.
abbrev pub SeeksFrames : {C : Type 0} {g : container.Ghosts C} → Info → ℕ → List Frame → Result (Reader C g) Fault → Type 0
SeeksFrames {g = g} info sample frames (Ok reader) = Finds g info sample frames None reader.ahead (stage_of reader.decoder)
SeeksFrames info sample frames (Err f) = f.why ≢ Memory → ⊥

-- If the bytes are a stream with some frames from this offset on, exactly these are searched.
abbrev pub SeeksStream : {C : Type 0} {g : container.Ghosts C} → Profile → Info → (sample : ℕ) → (stream : List ℕ) → (at : ℕ) → Result (Reader C g) Fault → Type 0
SeeksStream profile info sample stream at result = (frames : List Frame) → Cuts profile stream info at frames → SeeksFrames info sample frames result

-- A native stream in memory is cut at the start of its frames, as the reader that opened it counted.
abbrev pub FramesStart : Type 0
FramesStart = (profile : Profile) (stream : List ℕ) (blocks : List Block) (frames : List Frame) (info : Info) → length stream < 2 ^ 64
    → IsReadAs (by_grammar grammar (opening profile) (beginning Truncated) (bits_of stream)) blocks frames None → first_info blocks ≡ Some info → Cuts profile stream info (frames_start blocks) frames

-- And the bytes after a cut are a stream of the frames there, read from the state in which a decoder is resumed.
abbrev pub CutsAreRead : Type 0
CutsAreRead = (profile : Profile) (stream : List ℕ) (info : Info) (at : ℕ) (frames : List Frame) → Cuts profile stream info at frames → IsReadAs (by_grammar grammar (resumed profile info) (beginning Truncated) (bits_of (drop at stream))) [] frames None
