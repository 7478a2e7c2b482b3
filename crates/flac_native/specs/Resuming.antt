-- Reading a stream from one of its frames on.
use Rattle.std.specs.Prelude.{◌≡◌, ℕ, ◌-◌, ◌≤◌, Bool, true, List, [], ◌∷◌, ◌++◌, length, map, drop, Some, None}
use Rattle.flac_bits.specs.State.{Mark}
use Rattle.flac_bits.specs.Forms.{joined}
use Rattle.flac_bits.specs.Items.{Joined, Stream, state_after}
use Rattle.flac_bits.specs.declared.why.Why.TheVariants.{Truncated}
use Rattle.flac_header.specs.declared.subset.Profile.{Profile}
use Rattle.flac_meta.specs.Header.{nothing_seen}
use Rattle.flac_info.specs.Info.{Info, without_totals}
use Rattle.flac_frame.specs.Audio.{Sound}
use Rattle.flac_frame.specs.Frame.{Frame}
use Rattle.flac_native.specs.Decoding.{beginning}
use Rattle.flac_native.specs.Stream.{Piece, framed, Progress, grammar, opening}
use Rattle.flac_native.specs.Given.{Cut, fits_plan, plan_fault, info_of, frames_from}
use Rattle.flac_native.specs.Writing.{AreFrames, AreSizes}
use Rattle.flac_native.specs.declared.track.Phase.TheVariants.{Frames}

-- After blocks with this STREAMINFO a frame comes next, whose number may be any. Frames and samples are counted from
-- there.
abbrev pub at_frames : Profile → Info → Progress
at_frames profile i = record { stand = record { profile = profile; phase = Frames; index = 0; seen = nothing_seen; info = Some i; before = None }; samples = 0; message = [] }

-- The state in which decoding goes on at a frame, with a STREAMINFO without the number of samples and their digest.
abbrev pub resumed : Profile → Info → Progress
resumed profile i = at_frames profile (without_totals i)

-- An encoded stream from one of its frames on, read in this state, is exactly the frames from there on.
abbrev pub EncodedAreResumed : Type 0
EncodedAreResumed = (p : Cut) (a : Sound) (least greatest : ℕ) (frames : List (List Bool)) (number : ℕ) → plan_fault p ≡ None → fits_plan p a ≡ true → AreFrames p a frames → AreSizes frames least greatest
    → number ≤ length frames
    → Stream grammar (resumed p.profile (info_of p a least greatest)) (beginning Truncated) (map framed (frames_from p.block_size a (length frames - number) number)) (joined (drop number frames))

-- ---- what is read from a frame on

-- The bits before a frame are the parts before it, and they end at one position. With the STREAMINFO of those parts, a
-- reading that goes on there gives that frame, all parts after it, and then the end.
pub record Resumes (s : Progress) (m k : Mark) (front : List Piece) (f : Frame) (more : List Piece) (text : List Bool) : Type 0 where
  pub before : List Bool
  pub rest : List Bool
  pub split : text ≡ before ++ rest
  pub spelled : Joined grammar s m front before
  pub only : (head left : List Bool) → text ≡ head ++ left → Joined grammar s m front head → left ≡ rest
  pub info : Info
  pub told : (state_after grammar s front).stand.info ≡ Some info
  pub stream : Stream grammar (resumed s.stand.profile info) k (framed f ∷ more) rest

-- This holds at each frame of a stream.
abbrev pub FramesAreResumed : Type 0
FramesAreResumed = (profile : Profile) (m k : Mark) (front more : List Piece) (f : Frame) (text : List Bool) → m.unread ≡ 0 → k.unread ≡ 0
    → Stream grammar (opening profile) m (front ++ framed f ∷ more) text → Resumes (opening profile) m k front f more text
