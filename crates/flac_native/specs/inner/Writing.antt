-- For proofs of encoding: what was written or sent so far.
use Rattle.std.specs.Prelude.{◌≡◌, ℕ, ◌<◌, Bool, true, cond, nat_lt, List, [], ◌∷◌, ◌++◌, length, Result, OnOk, IfErr}
use Rattle.flac_bits.specs.Bits.{bits_of}
use Rattle.flac_bits.specs.Written.{Written, Fails, Writes}
use Rattle.flac_bits.specs.declared.why.Why.{Why}
use Rattle.flac_bits.specs.declared.target.Target as target
use Rattle.flac_bits.specs.Forms.{joined}
use Rattle.flac_header.specs.Spelling.{restarted}
use Rattle.flac_frame.specs.Audio.{Sound, samples_each}
use Rattle.flac_frame.specs.Spelling.{FrameForm, frame_spelling}
use Rattle.flac_subframe.specs.search.Capacity.{Capacity}
use Rattle.flac_frame.specs.Chosen.{SameByPlane}
use Rattle.flac_frame.specs.declared.frame_choice.FrameChoice.{FrameChoice}
use Rattle.flac_info.specs.Info.{Info}
use Rattle.flac_meta.specs.declared.block.Block.{Block}
use Rattle.flac_meta.specs.declared.block.Block.TheVariants as blocks
use Rattle.flac_meta.specs.declared.seek_table.SeekPoint.{SeekPoint}
use Rattle.flac_native.specs.Given.{Cut, fits_plan, blocks_in, room_of, info_of}
use Rattle.flac_native.specs.Seeking.{table_of}
use Rattle.flac_native.specs.Writing.{AreFrames, AreLeastFrames, AreChoices, IsSpelled, head_spelling}
use Rattle.flac_native.specs.declared.chosen_frames.ChosenFrames.{ChosenFrames}
use Rattle.flac_native.specs.Sent.{SendsBits}

-- These bits were written and sent, at a whole byte, or else the target failed.
pub record WritesAll {X : Type 0} (text : List Bool) (old new : Written) (result : Result X Why) : Type 0 where
  pub failed : IfErr result (λ e. Fails (old.bits ++ text) old new e)
  pub known : OnOk result (old.known ≡ true → new.known ≡ true)
  pub counted : OnOk result (new.errors ≡ old.errors)
  pub names : new.names ≡ old.names
  pub sent : OnOk result (old.known ≡ true → bits_of new.sent ≡ old.bits ++ text)

-- These bits were written, from a whole byte to one, or else the target failed. The checks may have begun anew among
-- them, and the last bits may be held.
pub record WritesOn {X : Type 0} (text : List Bool) (old new : Written) (result : Result X Why) : Type 0 where
  pub failed : IfErr result (λ e. Fails (old.bits ++ text) old new e)
  pub known : OnOk result (old.known ≡ true → new.known ≡ true)
  pub counted : OnOk result (new.errors ≡ old.errors)
  pub names : new.names ≡ old.names
  pub bits : OnOk result (old.known ≡ true → new.bits ≡ old.bits ++ text)
  pub whole : OnOk result (new.mark.unread ≡ 0)

-- The frame of a number can be written: it has samples, which fit the plan; these are the choices of the first frames;
-- and the buffers were made for the plan.
pub record IsReady (p : Cut) (a : Sound) (number : ℕ) (choices : List FrameChoice) (room : Capacity) : Type 0 where
  pub fits : fits_plan p a ≡ true
  pub few : number < blocks_in p.block_size (samples_each a.channels)
  pub chosen : AreChoices p a choices
  pub buffers : room ≡ room_of p

-- at a whole byte, at which the checks begin, the shortest frame of a number was written
abbrev pub WritesChosen : {X : Type 0} → Cut → Sound → ℕ → Written → Written → Result X Why → Type 0
WritesChosen p a number old new result = (f : FrameForm) × IsSpelled p a number (frame_spelling a.bits f) × Writes (frame_spelling a.bits f) (restarted old) new result

-- the shortest frame of a number was written and sent
abbrev pub WritesNext : {X : Type 0} → Cut → Sound → ℕ → Written → Written → Result X Why → Type 0
WritesNext p a number old new result = (text : List Bool) × IsSpelled p a number text × WritesAll text old new result

-- the second choice is the first, whatever was chosen
pub record IsKept (c kept : FrameChoice) : Type 0 where
  pub same : SameByPlane c kept
  pub many : length kept.subframes.items ≡ length c.subframes.items

-- a choice was kept after these, if they were fewer than `most`
abbrev pub KeepsUpTo : (most : ℕ) → FrameChoice → (old new : List FrameChoice) → Type 0
KeepsUpTo most c old new = (kept : FrameChoice) × IsKept c kept × (new ≡ cond (nat_lt (length old) most) (old ++ kept ∷ []) old)

-- each block of the samples has a shortest frame
pub record HaveFrames (p : Cut) (a : Sound) : Type 0 where
  pub frames : List (List Bool)
  pub are : AreFrames p a frames
  pub are_least : AreLeastFrames p a frames

-- what comes before the frames that were chosen: STREAMINFO with their sizes, the blocks, and the seek table
abbrev pub chosen_head : Cut → List Block → Sound → ChosenFrames → List Bool
chosen_head p list a frames = head_spelling (info_of p a frames.least frames.greatest) (list ++ table_of frames.points.items)

-- all frames of the samples were written, each the shortest of its block
abbrev pub WritesFrames : {X : Type 0} → Cut → Sound → Written → Written → Result X Why → Type 0
WritesFrames p a old new result = (frames : List (List Bool)) × AreFrames p a frames × AreLeastFrames p a frames × WritesOn (joined frames) old new result

-- after other bits they were written and sent
abbrev pub WritesStream : {X : Type 0} → List Bool → Cut → Sound → Written → Written → Result X Why → Type 0
WritesStream head p a old new result = (frames : List (List Bool)) × AreFrames p a frames × AreLeastFrames p a frames × WritesAll (head ++ joined frames) old new result

-- after other bits all of them were sent, or else a prefix
abbrev pub SendsStream : {S X E : Type 0} → target.Ghosts S → List Bool → Cut → Sound → S → S → Result X E → Type 0
SendsStream g head p a old new result = (frames : List (List Bool)) × AreFrames p a frames × AreLeastFrames p a frames × SendsBits g (head ++ joined frames) old new result

-- STREAMINFO, these blocks, and the seek table of these points, if there are points
abbrev pub blocks_with_table : Info → List Block → List SeekPoint → List Block
blocks_with_table info list points = blocks.StreamInfo info ∷ list ++ table_of points

-- after the head of the frames that were chosen, all frames were written
abbrev pub WritesAfterHead : {X : Type 0} → Cut → List Block → Sound → ChosenFrames → Written → Written → Result X Why → Type 0
WritesAfterHead p list a frames old new result = WritesStream (chosen_head p list a frames) p a old new result

-- that head and all frames were sent, or else a prefix
abbrev pub SendsAfterHead : {S X E : Type 0} → target.Ghosts S → Cut → List Block → Sound → ChosenFrames → S → S → Result X E → Type 0
SendsAfterHead g p list a frames old new result = SendsStream g (chosen_head p list a frames) p a old new result
