-- For proofs of reading a frame: what its parts read.
use Rattle.std.specs.Prelude.{◌≤◌, ◌*◌, ℕ, ℤ, Bool, cond, List, [], take, Option, Some, None, Result}
use Rattle.flac_bits.specs.Layout.{Layout}
use Rattle.flac_bits.specs.Reading.{Reads, CallInPlace}
use Rattle.flac_bits.specs.State.{State, started}
use Rattle.flac_bits.specs.declared.why.Why.{Why}
use Rattle.flac_header.specs.Header.{Header, greatest_in}
use Rattle.flac_header.specs.declared.subset.Profile.{Profile}
use Rattle.flac_info.specs.Info.{Info}
use Rattle.flac_subframe.specs.format.Subframe.{subframe_samples}
use Rattle.flac_subframe.specs.declared.format.limits.Limits.{Limits}
use Rattle.flac_frame.specs.Frame.{Frame, frame, frame_body, subframes}
use Rattle.flac_frame.specs.Stereo.{joined}
use Rattle.flac_frame.specs.View.{chunks, frame_in}
use Rattle.flac_frame.specs.declared.before.Before.{Before}
use Rattle.flac_frame.specs.declared.shape.Shape.{Shape}

-- a layout was read that begins with a header, of 40 bits at least, at which the checks begin anew
abbrev pub ReadsFromHeader : {X Y : Type 0} → (X → Y) → Layout Y → State → State → Result X Why → Type 0
ReadsFromHeader view layout old new result = CallInPlace 40 (λ s. Reads view layout (started s)) old new result

-- a frame was read, of any length up to a fence
abbrev pub ReadsAnyFrame : {X : Type 0} → (X → Frame) → Profile → Info → Option Before → State → State → Result X Why → Type 0
ReadsAnyFrame view profile info before old new result = ReadsFromHeader view (frame profile info before) old new result

-- samples were read, and whether each fits
abbrev pub ReadsIfFits : {A : Type 0} → A → Layout (Option A) → State → State → Result Bool Why → Type 0
ReadsIfFits samples layout old new result = Reads (λ fits. cond fits (Some samples) None) layout old new result

abbrev pub ReadsSubframe : (depth block : ℕ) → Limits → List ℤ → State → State → Result Bool Why → Type 0
ReadsSubframe depth block limits samples old new result = ReadsIfFits samples (subframe_samples depth block limits) old new result

-- the frame of a header whose samples are the first in an array, which may be longer
abbrev pub frame_at : ℕ → List ℤ → Header → Frame
frame_at channels samples h = frame_in channels h (take (channels * h.size) samples)

-- and a frame was read into that array
abbrev pub ReadsInto : Profile → Info → Option Before → List ℤ → State → State → Result Header Why → Type 0
ReadsInto profile info before samples old new result = ReadsAnyFrame (frame_at info.channels samples) profile info before old new result

-- what follows a header was read into an array
abbrev pub ReadsBody : {X : Type 0} → Profile → Info → Header → List ℤ → State → State → Result X Why → Type 0
ReadsBody profile info header samples old new result = Reads (λ _. frame_in info.channels header samples) (frame_body profile info header) old new result

-- a block is no longer than STREAMINFO and the profile allow (RFC 9639, sections 7 and 8.2)
abbrev pub FitsStream : Profile → Info → Header → Type 0
FitsStream profile info h = (h.size ≤ info.greatest_block) × (h.size ≤ greatest_in profile info.rate)

-- ---- the channels of a shape, in one array

abbrev pub chunks_in : Shape → List ℤ → List (List ℤ)
chunks_in shape samples = chunks shape.channels shape.block samples

-- those that are stored as these under a channel code
abbrev pub joined_in : Shape → ℕ → List ℤ → List (List ℤ)
joined_in shape code samples = joined code (chunks_in shape samples)

-- a subframe of each was read, and whether each sample fits
abbrev pub ReadsEach : Shape → ℕ → List ℤ → State → State → Result Bool Why → Type 0
ReadsEach shape code samples old new result = ReadsIfFits (chunks_in shape samples) (subframes shape.depth code shape.block shape.limits (Some []) 0 shape.channels) old new result
