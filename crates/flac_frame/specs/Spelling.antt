-- How a frame is spelled, which forms are valid, and which samples they have (RFC 9639, section 9).
use Rattle.std.specs.Prelude.{◌≡◌, ℕ, ◌+◌, ◌-◌, ◌%◌, Bool, true, List, [], ◌∷◌, ◌++◌, length, ℤ, Option, Some, Ok, ◌↔◌, ⊤}
use Rattle.flac_bits.specs.Bits.{unsigned}
use Rattle.flac_bits.specs.State.{Mark, past}
use Rattle.flac_bits.specs.Layout.{run}
use Rattle.flac_bits.specs.Meaning.{Spells, AllKept}
use Rattle.flac_bits.specs.Check.{remainder}
use Rattle.flac_info.specs.Info.{Info, KeepsRules}
use Rattle.flac_header.specs.Header.{Header, IsHeader}
use Rattle.flac_header.specs.Spelling.{header_spelling}
use Rattle.flac_header.specs.declared.subset.Profile.{Profile}
use Rattle.flac_subframe.specs.declared.format.limits.Limits.{Limits}
use Rattle.flac_subframe.specs.format.Subframe.{Form, samples_of}
use Rattle.flac_subframe.specs.format.Spelling.{subframe_spelling, IsSubframe}
use Rattle.flac_frame.specs.Frame.{Frame, frame, header_rules, side_bit, limits_of, each_fits}
use Rattle.flac_frame.specs.Stereo.{joined}
use Rattle.flac_frame.specs.declared.before.Before.{Before}

-- What a frame is spelled from: its header, and a form of each channel's subframe.
pub record FrameForm : Type 0 where
  pub header : Header
  pub subframes : List Form

-- ---- the spelling

-- The subframes of the channels from one on, each at its depth (section 9.2.3).
unfoldable pub subframes_spelling : (depth code channel : ℕ) → List Form → List Bool
subframes_spelling depth code channel [] = []
subframes_spelling depth code channel (f ∷ fs) = subframe_spelling (depth + side_bit code channel) f ++ subframes_spelling depth code (channel + 1) fs

-- Zeros at the end, up to a whole byte (section 9.3).
abbrev pub filled : List Bool → List Bool
filled text = text ++ unsigned ((8 - length text % 8) % 8) 0

-- CRC-16 at the end: the remainder by x^16 + x^15 + x^2 + 1 (section 9.3).
abbrev pub checked : List Bool → List Bool
checked text = text ++ unsigned 16 (remainder 16 32773 text)

-- The header, the subframes of samples of a depth, zeros up to a whole byte, and the check of all of it.
unfoldable pub frame_spelling : (depth : ℕ) → FrameForm → List Bool
frame_spelling depth f = checked (filled (header_spelling f.header ++ subframes_spelling depth f.header.channel_code 0 f.subframes))

-- ---- which forms are valid

-- a subframe for each of the channels from one on, at its depth
abbrev pub AreSubframes : (depth code block : ℕ) → Limits → (channel : ℕ) → List Form → Type 0
AreSubframes depth code block limits channel [] = ⊤
AreSubframes depth code block limits channel (f ∷ fs) = IsSubframe (depth + side_bit code channel) block limits f × AreSubframes depth code block limits (channel + 1) fs

-- A frame in a stream, after the frames before it.
pub record IsFrame (profile : Profile) (info : Info) (before : Option Before) (f : FrameForm) : Type 0 where
  pub header : IsHeader f.header
  pub follows : AllKept (header_rules profile info before f.header)
  pub many : length f.subframes ≡ info.channels
  pub subframes : AreSubframes info.depth f.header.channel_code f.header.size (limits_of profile info) 0 f.subframes

-- ---- its samples

-- the subframes of the channels from one on have these samples, each of which fits its depth
abbrev pub HaveSamples : (depth code block channel : ℕ) → List Form → List (List ℤ) → Type 0
HaveSamples depth code block channel [] [] = ⊤
HaveSamples depth code block channel [] (s ∷ ss) = ⊥
HaveSamples depth code block channel (f ∷ fs) [] = ⊥
HaveSamples depth code block channel (f ∷ fs) (s ∷ ss) = (samples_of (depth + side_bit code channel) block f ≡ Some s) × HaveSamples depth code block (channel + 1) fs ss

-- The channels of a frame: restored from those that its subframes store, and all samples fit the depth.
pub record FrameSamples (depth : ℕ) (f : FrameForm) (channels : List (List ℤ)) : Type 0 where
  pub kept : List (List ℤ)
  pub subframes : HaveSamples depth f.header.channel_code f.header.size 0 f.subframes kept
  pub joined : joined f.header.channel_code kept ≡ channels
  pub fit : each_fits depth channels ≡ true

-- the frame of a header and these channels
abbrev pub frame_with : Header → List (List ℤ) → Frame
frame_with h channels = record { variable = h.variable; number = h.number; size = h.size; channels = channels }

-- ---- the laws

-- a frame, and a form of it with this spelling
pub record IsSpelled (profile : Profile) (info : Info) (before : Option Before) (x : Frame) (text : List Bool) : Type 0 where
  pub form : FrameForm
  pub valid : IsFrame profile info before form
  pub spelling : text ≡ frame_spelling info.depth form
  pub frame : x ≡ frame_with form.header x.channels
  pub samples : FrameSamples info.depth form x.channels

-- At a whole byte at which the checks begin, bits spell exactly the frames that have a form with this spelling.
abbrev pub FramesAreSpelled : Type 0
FramesAreSpelled = (profile : Profile) (info : Info) (before : Option Before) (m : Mark) (text : List Bool) (x : Frame) → KeepsRules info → m.unread ≡ 0 → m.check8 ≡ 0 → m.check16 ≡ 0
    → Spells (frame profile info before) m text x ↔ IsSpelled profile info before x text

-- a form that is spelled is read as its frame, whatever follows
abbrev pub FramesAreReadAgain : Type 0
FramesAreReadAgain = (profile : Profile) (info : Info) (before : Option Before) (m : Mark) (rest : List Bool) (f : FrameForm) (channels : List (List ℤ)) → KeepsRules info → m.unread ≡ 0 → m.check8 ≡ 0 → m.check16 ≡ 0
    → IsFrame profile info before f → FrameSamples info.depth f channels
    → run (frame profile info before) (record { left = frame_spelling info.depth f ++ rest; mark = m }) ≡ Ok (frame_with f.header channels, record { left = rest; mark = past (frame_spelling info.depth f) m })

-- a spelling is whole bytes
abbrev pub FramesAreBytes : Type 0
FramesAreBytes = (depth : ℕ) (f : FrameForm) → length (frame_spelling depth f) % 8 ≡ 0
