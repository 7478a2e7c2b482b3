-- For proofs of the search and of writing: a block of samples that is written as a frame, and its parts.
use Rattle.std.specs.Prelude.{ℕ, ℤ, Bool, List, [], ◌∷◌, flat_map, Result}
use Rattle.flac_bits.specs.Written.{Written}
use Rattle.flac_bits.specs.declared.why.Why.{Why}
use Rattle.flac_subframe.specs.search.Choices.{form_in}
use Rattle.flac_subframe.specs.format.Spelling.{subframe_spelling}
use Rattle.flac_subframe.specs.declared.search.wide_choice.WideChoice.{WideChoice}
use Rattle.flac_frame.specs.Chosen.{forms_by_plane, AreMadeByPlane, IsChoiceByPlane}
use Rattle.flac_frame.specs.Encoding.{block_of, partition_limit, order_limit, WritesFrameByPlane}
use Rattle.flac_frame.specs.PlaneLists.{Lists, lists_of, lists_kept, AreAllWithin}
use Rattle.flac_frame.specs.Spelling.{subframes_spelling}
use Rattle.flac_frame.specs.Stereo.{kept_as}
use Rattle.flac_frame.specs.declared.frame_choice.FrameChoice.{FrameChoice}
use Rattle.flac_frame.specs.declared.pair_choices.PairChoices.{PairChoices}
use Rattle.flac_frame.specs.declared.planes.Planes.{Planes}
use Rattle.flac_frame.specs.declared.subject.Subject.{Subject}
use Rattle.flac_frame.specs.inner.Chosen.{AreChosen}
use Rattle.flac_frame.specs.inner.Pair.{IsChosen, ArePlanes}

-- its samples, and the lists of linear predictors of its planes
abbrev pub block_samples : Subject → List (List ℤ)
block_samples s = block_of s.start s.size s.audio.now.channels

abbrev pub lists_in : Subject → Lists
lists_in s = lists_of s.predictors.now

-- no predictor has an order above that of the profile
abbrev pub HasOrders : Subject → Type 0
HasOrders s = AreAllWithin (order_limit s.audio.now) (lists_in s)

-- ---- channels, each by itself

-- the choices are the shortest subframes of its channels
abbrev pub HasChosen : Subject → List WideChoice → Type 0
HasChosen s choices = AreChosen (partition_limit s.audio.now) (lists_in s) s.audio.now.bits s.size choices (block_samples s)

-- and these are the bits of those subframes
abbrev pub apart_spelling : Subject → List WideChoice → List Bool
apart_spelling s choices = flat_map (subframe_spelling s.audio.now.bits) (forms_by_plane (lists_in s) choices (block_samples s))

-- ---- planes

-- what was chosen for samples of a plane is a shortest subframe of them
abbrev pub IsPlaneChoice : Subject → (plane depth : ℕ) → List ℤ → WideChoice → Type 0
IsPlaneChoice s plane depth samples c = IsChosen (partition_limit s.audio.now) (lists_in s plane) depth samples (form_in (lists_in s plane) c samples) c.bits

-- the same of left, right, side and middle
abbrev pub HasPlanes : Subject → Planes → PairChoices → Type 0
HasPlanes s planes choices = ArePlanes (partition_limit s.audio.now) (lists_in s) planes.depth planes.left.now planes.right.now choices

-- ---- the frame

-- what was chosen makes its shortest frame
abbrev pub IsChoiceFor : Subject → FrameChoice → Type 0
IsChoiceFor s c = IsChoiceByPlane (lists_in s) s.audio.now s.size s.number (block_samples s) c

-- the channels as the channel code stores them
abbrev pub kept_in : Subject → FrameChoice → List (List ℤ)
kept_in s c = kept_as c.code (block_samples s)

-- each choice was made for one of those
abbrev pub AreMadeFor : Subject → FrameChoice → List (List ℤ) → Type 0
AreMadeFor s c kept = AreMadeByPlane (lists_kept c.code (lists_in s)) c.subframes.items kept

-- and these are the bits of their subframes
abbrev pub kept_spelling : Subject → FrameChoice → List (List ℤ) → List Bool
kept_spelling s c kept = subframes_spelling s.audio.now.bits c.code 0 (forms_by_plane (lists_kept c.code (lists_in s)) c.subframes.items kept)

abbrev pub choice_spelling : Subject → FrameChoice → List Bool
choice_spelling s c = kept_spelling s c (kept_in s c)

abbrev pub pair_spelling : Subject → FrameChoice → List ℤ → List ℤ → List Bool
pair_spelling s c first second = kept_spelling s c (first ∷ second ∷ [])

-- the frame was written
abbrev pub WritesFrameOf : {X : Type 0} → Subject → Written → Written → Result X Why → Type 0
WritesFrameOf s old new result = WritesFrameByPlane (lists_in s) s.audio.now s.size s.number (block_samples s) old new result
