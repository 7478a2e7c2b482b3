-- What the buffers of frames hold.
use Rattle.std.specs.Prelude.{◌≡◌, ℕ, false, [], Option, None, Some, Result, Ok, Err}
use Rattle.flac_bits.specs.Fencing.{lifted}
use Rattle.flac_bits.specs.Reading.{CallInPlace}
use Rattle.flac_bits.specs.State.{State}
use Rattle.flac_bits.specs.Within.{MeansWithin}
use Rattle.flac_bits.specs.declared.why.Why.{Why}
use Rattle.flac_header.specs.declared.subset.Profile.{Profile}
use Rattle.flac_info.specs.Info.{Info}
use Rattle.flac_frame.specs.declared.before.Before.{Before}
use Rattle.flac_frame.specs.Frame.{Frame, frame, after_frame}

-- How many channels and how many samples of each the arrays have room for, the state after the frames before, and the
-- frame that was read last.
pub record Kept : Type 0 where
  pub channels : ℕ
  pub max_block : ℕ
  pub before : Option Before
  pub held : Frame

-- no frame
abbrev pub nothing : Frame
nothing = record { variable = false; number = 0; size = 0; channels = [] }

-- buffers for this many channels of this many samples each, which have read no frame
abbrev pub empty : ℕ → ℕ → Kept
empty channels max_block = record { channels = channels; max_block = max_block; before = None; held = nothing }

-- the buffers after a frame that was returned, or that was refused
abbrev pub LeavesIn : {X : Type 0} → Kept → Kept → (X → Frame) → Result X Why → Type 0
LeavesIn old last shown (Ok x) = (last.before ≡ Some (after_frame old.before (shown x))) × (last.held ≡ shown x)
LeavesIn old last shown (Err e) = (last.before ≡ old.before) × (last.held ≡ nothing)

abbrev pub Leaves : {X : Type 0} → Kept → Kept → (X → Frame) → Result X Why → Type 0
Leaves old last shown result = (last.channels ≡ old.channels) × (last.max_block ≡ old.max_block) × LeavesIn old last shown result

-- A frame was read, in at most 16777215 bytes: 40 bits at least. The checks begin anew, and a fence is lifted.
abbrev pub ReadsFrame : {X : Type 0} → (X → Frame) → Profile → Info → Option Before → State → State → Result X Why → Type 0
ReadsFrame shown profile info before old new result = CallInPlace 40 (λ _. MeansWithin (Some 16777215) shown (frame profile info before) old) (lifted old) new result
