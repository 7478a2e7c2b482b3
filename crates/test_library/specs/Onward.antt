-- What a program finds that opens a stream, goes to a sample, and reads on.
use Rattle.std.specs.Prelude.{◌≡◌, ◌≢◌, ◌<◌, ◌^◌, ℕ, true, is_some, List, [], ◌∷◌, ◌++◌, length, Option, Some, None, Result, Ok, Err}
use Rattle.std.specs.declared.io.traits.Read as read
use Rattle.std.specs.declared.io.traits.Seek as seek
use Rattle.flac_bits.specs.State.{the_end}
use Rattle.flac_bits.specs.declared.why.Why.TheVariants.{Memory}
use Rattle.flac_info.specs.Info.{Info}
use Rattle.flac_meta.specs.declared.block.Block.{Block}
use Rattle.flac_header.specs.declared.subset.Profile.{Profile}
use Rattle.flac_header.specs.declared.subset.Profile.TheVariants.{Subset}
use Rattle.flac_frame.specs.Frame.{Frame, first_sample}
use Rattle.flac_native.specs.Item.{Item, metadata, frame}
use Rattle.flac_native.specs.declared.fault.Fault.{Fault}
use Rattle.flac_native.specs.declared.container.Container as container
use Rattle.flac_reader.specs.Inputs.{native_input}
use Rattle.flac_reader.specs.Kept.{first_info}
use Rattle.flac_reader.specs.Moved.{IsMoved, read_resumed}
use Rattle.flac_reader.specs.Opening.{IsReadAs}
use Rattle.flac_reader.specs.Seeking.{search_offset, PassedBy, HoldsFirst}
use Rattle.flac_reader.specs.declared.reader.Reader.{Reader}

-- that of the first of some frames: the number of its first sample, and how many samples each channel has
abbrev pub shown : Info → List Frame → Option (ℕ × ℕ)
shown info [] = None
shown info (f ∷ fs) = Some (first_sample info.greatest_block f, f.size)

-- what is seen of a frame whose first sample has this number
abbrev pub seen_of : ℕ → Option Item → Option (ℕ × ℕ)
seen_of n None = None
seen_of n (Some (metadata b)) = None
seen_of n (Some (frame f)) = Some (n, f.size)

-- The first frame that holds the sample was seen, or there is none. Nothing is refused, unless memory runs out.
abbrev pub ShowsFrames : Info → ℕ → List Frame → Result (Option (ℕ × ℕ)) Fault → Type 0
ShowsFrames info sample frames (Ok seen) = (passed : List Frame) × (left : List Frame) × (frames ≡ passed ++ left) × PassedBy info sample passed × HoldsFirst info sample left × (seen ≡ shown info left)
ShowsFrames info sample frames (Err f) = f.why ≢ Memory → ⊥

-- This holds of the frames of these bytes, if they are a native stream.
abbrev pub ShowsStream : Profile → (sample : ℕ) → (stream : List ℕ) → Result (Option (ℕ × ℕ)) Fault → Type 0
ShowsStream profile sample stream result = (blocks : List Block) (frames : List Frame) (info : Info) → length stream < 2 ^ 64
    → IsReadAs (native_input profile stream the_end) blocks frames None → first_info blocks ≡ Some info → ShowsFrames info sample frames result

-- And of those that a device has where it was moved, if its bytes are known, and are frames up to the end of a stream.
pub record ShowsDevice {T C : Type 0} {g : container.Ghosts C} (s : seek.Ghosts T) (r : read.Ghosts T) (reader : Reader C g) (device : T) (sample : ℕ) (seen : Option (ℕ × ℕ)) : Type 0 where
  pub moved : T
  pub there : IsMoved s device moved (search_offset reader sample)
  pub shows : is_some (r.remaining moved) ≡ true → (frames : List Frame) → IsReadAs (read_resumed Subset reader.info (r.remaining moved)) [] frames None → ShowsFrames reader.info sample frames (Ok seen)
