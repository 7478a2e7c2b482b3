-- What encoding a frame writes.
use Rattle.std.specs.Prelude.{◌≡◌, ℕ, ◌≤◌, ◌<◌, ◌↔◌, ℤ, List, [], ◌∷◌, ◌+◌, ◌-◌, ◌*◌, ◌^◌, length, map, take, drop, Some, Option, All, Result, true, false, ⊤}
use Rattle.flac_bits.specs.Signed.{FitsBits}
use Rattle.flac_bits.specs.Written.{Written, Writes}
use Rattle.flac_bits.specs.declared.why.Why.{Why}
use Rattle.flac_bits.specs.Meaning.{AllKept}
use Rattle.flac_info.specs.Info.{Info}
use Rattle.flac_header.specs.Header.{Header, IsHeader, channels_of, greatest_in, allowed}
use Rattle.flac_header.specs.Choice.{chosen_header}
use Rattle.flac_header.specs.Spelling.{restarted}
use Rattle.flac_header.specs.declared.subset.Profile.{Profile}
use Rattle.flac_subframe.specs.declared.format.limits.Limits.{Limits}
use Rattle.flac_subframe.specs.declared.format.linear.LinearPredictor.{LinearPredictor}
use Rattle.flac_subframe.specs.format.Chosen.{fixed_below, offered}
use Rattle.flac_subframe.specs.format.Family.{Stands}
use Rattle.flac_subframe.specs.search.FamilyLaws.{InFamily, InFamilyWith}
use Rattle.flac_subframe.specs.format.Least.{IsLeast}
use Rattle.flac_subframe.specs.format.Spelling.{IsSubframe}
use Rattle.flac_subframe.specs.format.Subframe.{Form, samples_of}
use Rattle.flac_frame.specs.Audio.{Sound}
use Rattle.flac_frame.specs.Follows.{HasFormat}
use Rattle.flac_frame.specs.Frame.{limits_at, header_rules}
use Rattle.flac_frame.specs.PlaneLists.{Lists, lists_of, same_list, later, lists_kept}
use Rattle.flac_frame.specs.declared.plane_predictors.PlanePredictors.{PlanePredictors}
use Rattle.flac_frame.specs.Stereo.{kept_as}
use Rattle.flac_frame.specs.Spelling.{FrameForm, frame_spelling, subframes_spelling, AreSubframes, IsFrame, FrameSamples}
use Rattle.flac_frame.specs.declared.before.Before.{Before}

-- a form that encodes samples of a depth may be spelled in a block of as many, and has these samples
abbrev pub FormsStand : Type 0
FormsStand = (depth : ℕ) (limits : Limits) (f : Form) (s : List ℤ) → 1 ≤ depth → 0 < length s → 8 ≤ limits.partition → All (FitsBits depth) s → Stands 8 (fixed_below 5) f s
    → IsSubframe depth (length s) limits f × (samples_of depth (length s) f ≡ Some s)

-- ---- a frame

-- the samples of a block: `size` samples of each channel, from `start` on
abbrev pub block_of : (start size : ℕ) → List (List ℤ) → List (List ℤ)
block_of start size channels = map (λ c. take size (drop start c)) channels

-- A frame of a block of samples: the header has fixed blocking, the frame's number and the codes for the block size,
-- the rate and the depth (the channel code is free); the subframes may be spelled, and the channels are the block's.
pub record IsEncoding (sound : Sound) (size number : ℕ) (block : List (List ℤ)) (f : FrameForm) : Type 0 where
  pub code : ℕ
  pub header : chosen_header sound.profile size sound.rate code sound.bits number ≡ Some f.header
  pub valid : IsHeader f.header
  pub channels : channels_of f.header.channel_code ≡ length block
  pub many : length f.subframes ≡ length block
  pub subframes : AreSubframes sound.bits code size (limits_at sound.profile sound.rate) 0 f.subframes
  pub samples : FrameSamples sound.bits f block

-- the largest partition order of a profile's subframes: 8 in the subset, 15 otherwise, whatever the rate (sections 7
-- and 9.2.7)
abbrev pub most_in : Profile → ℕ
most_in profile = (limits_at profile 0).partition

-- the largest partition order of the samples' subframes
abbrev pub partition_limit : Sound → ℕ
partition_limit sound = (limits_at sound.profile sound.rate).partition

-- the largest order of a linear predictor that their subframes may have (sections 7 and 9.2.6)
abbrev pub order_limit : Sound → ℕ
order_limit sound = (limits_at sound.profile sound.rate).linear

-- the header of a block of samples under a channel code, if there is one
abbrev pub header_choice : Sound → (size code number : ℕ) → Option Header
header_choice sound size code number = chosen_header sound.profile size sound.rate code sound.bits number

-- a frame of at most 16777215 bytes
abbrev pub IsShort : ℕ → FrameForm → Type 0
IsShort depth f = length (frame_spelling depth f) ≤ 8 * 16777215

-- each form encodes one of the channels, in the family above, with the linear predictors of the channel's list
abbrev pub EachStandsByPlane : (most : ℕ) → Lists → List Form → List (List ℤ) → Type 0
EachStandsByPlane most lists [] [] = ⊤
EachStandsByPlane most lists [] (s ∷ ss) = ⊥
EachStandsByPlane most lists (f ∷ fs) [] = ⊥
EachStandsByPlane most lists (f ∷ fs) (s ∷ ss) = Stands most (offered (lists 0)) f s × EachStandsByPlane most (later lists) fs ss

-- The frames of a block of which the shortest is chosen: under any channel code for as many channels, the subframes are
-- forms of the family for the channels that the code stores. The linear predictors of a plane's list add exactly their
-- forms, to the subframes of that plane alone.
pub record IsOfPlanes (lists : Lists) (sound : Sound) (size number : ℕ) (block : List (List ℤ)) (f : FrameForm) : Type 0 where
  pub encoding : IsEncoding sound size number block f
  pub stand : EachStandsByPlane (partition_limit sound) (lists_kept f.header.channel_code lists) f.subframes (kept_as f.header.channel_code block)

-- the same with one list for all planes
abbrev pub EachStands : (most : ℕ) → List LinearPredictor → List Form → List (List ℤ) → Type 0
EachStands most ps = EachStandsByPlane most (same_list ps)

abbrev pub IsOfFamilyWith : List LinearPredictor → Sound → (size number : ℕ) → List (List ℤ) → FrameForm → Type 0
IsOfFamilyWith ps = IsOfPlanes (same_list ps)

abbrev pub IsOfFamily : Sound → (size number : ℕ) → List (List ℤ) → FrameForm → Type 0
IsOfFamily sound size number block f = IsOfFamilyWith [] sound size number block f

-- the subframes are of the family, each for its samples: constant, verbatim or by a fixed predictor, with all wasted
-- bits left out
abbrev pub EachInFamily : List Form → List (List ℤ) → Type 0
EachInFamily [] [] = ⊤
EachInFamily [] (s ∷ ss) = ⊥
EachInFamily (f ∷ fs) [] = ⊥
EachInFamily (f ∷ fs) (s ∷ ss) = InFamily f s × EachInFamily fs ss

-- the same with linear predictors: also by one of the channel's list
abbrev pub EachInPlanes : Lists → List Form → List (List ℤ) → Type 0
EachInPlanes lists [] [] = ⊤
EachInPlanes lists [] (s ∷ ss) = ⊥
EachInPlanes lists (f ∷ fs) [] = ⊥
EachInPlanes lists (f ∷ fs) (s ∷ ss) = InFamilyWith (lists 0) f s × EachInPlanes (later lists) fs ss

abbrev pub EachInFamilyWith : List LinearPredictor → List Form → List (List ℤ) → Type 0
EachInFamilyWith ps = EachInPlanes (same_list ps)

-- these frames are exactly the encodings of a block, under any channel code, whose subframes are of the family, each
-- for its samples
abbrev pub FrameFamilyIsPlain : Type 0
FrameFamilyIsPlain = (sound : Sound) (size number : ℕ) (block : List (List ℤ)) (f : FrameForm)
    → IsOfFamily sound size number block f ↔ ((e : IsEncoding sound size number block f) × EachInFamily f.subframes e.samples.kept)

abbrev pub FramePlanesIsPlain : Type 0
FramePlanesIsPlain = (lists : Lists) (sound : Sound) (size number : ℕ) (block : List (List ℤ)) (f : FrameForm)
    → IsOfPlanes lists sound size number block f ↔ ((e : IsEncoding sound size number block f) × EachInPlanes (lists_kept f.header.channel_code lists) f.subframes e.samples.kept)

abbrev pub FrameFamilyWithIsPlain : Type 0
FrameFamilyWithIsPlain = (ps : List LinearPredictor) (sound : Sound) (size number : ℕ) (block : List (List ℤ)) (f : FrameForm)
    → IsOfFamilyWith ps sound size number block f ↔ ((e : IsEncoding sound size number block f) × EachInFamilyWith ps f.subframes e.samples.kept)

-- the bits of the subframes
abbrev pub subframes_cost : ℕ → FrameForm → ℕ
subframes_cost depth f = length (subframes_spelling depth f.header.channel_code 0 f.subframes)

-- No frame of the family is shorter; none takes fewer bits for its subframes, which the padding to a whole byte may
-- hide; and with a smaller channel code, they take more.
pub record IsLeastByPlane (lists : Lists) (sound : Sound) (size number : ℕ) (block : List (List ℤ)) (f : FrameForm) : Type 0 where
  pub least : IsLeast (IsOfPlanes lists sound size number block) (λ g. length (frame_spelling sound.bits g)) f
  pub fewest : (g : FrameForm) → IsOfPlanes lists sound size number block g → subframes_cost sound.bits f ≤ subframes_cost sound.bits g
  pub first : (g : FrameForm) → IsOfPlanes lists sound size number block g → g.header.channel_code < f.header.channel_code → subframes_cost sound.bits f < subframes_cost sound.bits g

abbrev pub IsLeastWith : List LinearPredictor → Sound → (size number : ℕ) → List (List ℤ) → FrameForm → Type 0
IsLeastWith ps = IsLeastByPlane (same_list ps)

-- at a whole byte, at which the checks begin, the spelling of such a frame was written, the shortest of the family, of
-- at most 16777215 bytes
abbrev pub WritesFrameByPlane : {X : Type 0} → Lists → Sound → (size number : ℕ) → List (List ℤ) → Written → Written → Result X Why → Type 0
WritesFrameByPlane lists sound size number block old new result = (f : FrameForm) × IsEncoding sound size number block f × (IsLeastByPlane lists sound size number block f × IsShort sound.bits f) × Writes (frame_spelling sound.bits f) (restarted old) new result

abbrev pub WritesFrameWith : {X : Type 0} → List LinearPredictor → Sound → (size number : ℕ) → List (List ℤ) → Written → Written → Result X Why → Type 0
WritesFrameWith ps sound size number block old new result = WritesFrameByPlane (same_list ps) sound size number block old new result

abbrev pub WritesFrame : {X : Type 0} → Sound → (size number : ℕ) → List (List ℤ) → Written → Written → Result X Why → Type 0
WritesFrame sound size number block old new result = WritesFrameWith [] sound size number block old new result

-- the same of the samples from an index on up to another
abbrev pub EncodesByPlane : {X : Type 0} → PlanePredictors → Sound → (start end number : ℕ) → Written → Written → Result X Why → Type 0
EncodesByPlane predictors sound start end number old new result = WritesFrameByPlane (lists_of predictors) sound (end - start) number (block_of start (end - start) sound.channels) old new result

abbrev pub EncodesWith : {X : Type 0} → List LinearPredictor → Sound → (start end number : ℕ) → Written → Written → Result X Why → Type 0
EncodesWith ps sound start end number old new result = WritesFrameWith ps sound (end - start) number (block_of start (end - start) sound.channels) old new result

abbrev pub EncodesRange : {X : Type 0} → Sound → (start end number : ℕ) → Written → Written → Result X Why → Type 0
EncodesRange sound start end number old new result = WritesFrame sound (end - start) number (block_of start (end - start) sound.channels) old new result

-- how many bytes were written, unless the count of all bytes reached its largest value
abbrev pub CountsBytes : Written → Written → ℕ → Type 0
CountsBytes old new bytes = old.known ≡ true → new.mark.bytes < 2 ^ 64 - 1 → length new.bits ≡ length old.bits + 8 * bytes

-- A frame of samples in the format of STREAMINFO has a header of that format, which the profile allows if the block is
-- not too long for the rate; and if the header keeps the rules after the frames before, it is a frame of the block.
pub record IsFrameOf (profile : Profile) (info : Info) (size number : ℕ) (block : List (List ℤ)) (f : FrameForm) : Type 0 where
  pub fixed : f.header.variable ≡ false
  pub numbered : f.header.number ≡ number
  pub sized : f.header.size ≡ size
  pub format : HasFormat profile info f.header
  pub allowed : size ≤ greatest_in profile info.rate → allowed profile f.header ≡ true
  pub frame : (before : Option Before) → AllKept (header_rules profile info before f.header) → IsFrame profile info before f × FrameSamples info.depth f block

abbrev pub EncodingsAreFrames : Type 0
EncodingsAreFrames = (sound : Sound) (size number : ℕ) (block : List (List ℤ)) (f : FrameForm) (info : Info) → info.rate ≡ sound.rate → info.depth ≡ sound.bits → info.channels ≡ length block
    → IsEncoding sound size number block f → IsFrameOf sound.profile info size number block f
