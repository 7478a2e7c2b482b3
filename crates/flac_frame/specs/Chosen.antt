-- How a block is written as a frame, chosen before anything of it is written.
use Rattle.std.specs.Prelude.{◌≡◌, ◌≤◌, ◌-◌, ◌*◌, ◌^◌, ℕ, ℤ, List, [], ◌∷◌, length, Some, All, vec_len, ⊤}
use Rattle.flac_header.specs.Choice.{chosen_header}
use Rattle.flac_subframe.specs.declared.search.wide_choice.WideChoice.{WideChoice}
use Rattle.flac_subframe.specs.declared.format.linear.LinearPredictor.{LinearPredictor}
use Rattle.flac_subframe.specs.search.Choices.{IsMadeIn, form_in}
use Rattle.flac_subframe.specs.format.Subframe.{Form}
use Rattle.flac_frame.specs.Audio.{Sound}
use Rattle.flac_frame.specs.Encoding.{block_of, IsEncoding, IsLeastByPlane, IsShort, subframes_cost}
use Rattle.flac_frame.specs.PlaneLists.{Lists, same_list, later, lists_kept}
use Rattle.flac_frame.specs.Spelling.{FrameForm, frame_spelling}
use Rattle.flac_frame.specs.Stereo.{kept_as}
use Rattle.flac_frame.specs.declared.frame_choice.FrameChoice.{FrameChoice}

-- the forms of choices for the samples of each channel, with the linear predictors of its list; there may be more choices
-- than channels
abbrev pub forms_by_plane : Lists → List WideChoice → List (List ℤ) → List Form
forms_by_plane lists choices [] = []
forms_by_plane lists [] (s ∷ ss) = []
forms_by_plane lists (c ∷ cs) (s ∷ ss) = form_in (lists 0) c s ∷ forms_by_plane (later lists) cs ss

-- each choice was made for the samples of its channel
abbrev pub AreMadeByPlane : Lists → List WideChoice → List (List ℤ) → Type 0
AreMadeByPlane lists choices [] = ⊤
AreMadeByPlane lists [] (s ∷ ss) = ⊥
AreMadeByPlane lists (c ∷ cs) (s ∷ ss) = IsMadeIn (lists 0) c s × AreMadeByPlane (later lists) cs ss

-- What was chosen for a block makes its shortest frame, under the header of its number: the subframes are chosen for
-- the channels that the channel code stores. The frame has at most 16777215 bytes, and `bits` are those of its
-- subframes.
pub record IsChoiceByPlane (lists : Lists) (sound : Sound) (size number : ℕ) (block : List (List ℤ)) (c : FrameChoice) : Type 0 where
  pub form : FrameForm
  pub header : chosen_header sound.profile size sound.rate c.code sound.bits number ≡ Some form.header
  pub subframes : form.subframes ≡ forms_by_plane (lists_kept c.code lists) c.subframes.items (kept_as c.code block)
  pub made : AreMadeByPlane (lists_kept c.code lists) c.subframes.items (kept_as c.code block)
  pub encoding : IsEncoding sound size number block form
  pub least : IsLeastByPlane lists sound size number block form
  pub short : IsShort sound.bits form
  pub cost : c.bits ≡ subframes_cost sound.bits form

-- the same with one list for all planes
abbrev pub IsChoiceWith : List LinearPredictor → Sound → (size number : ℕ) → List (List ℤ) → FrameChoice → Type 0
IsChoiceWith ps = IsChoiceByPlane (same_list ps)

-- each array is long enough for partition orders up to `most`
abbrev pub AllHaveCodings : (most : ℕ) → List WideChoice → Type 0
AllHaveCodings most choices = All (λ c. 2 ^ most ≤ vec_len c.codings) choices

-- there is a choice for the subframe of each channel, with arrays for partition orders up to `most`
pub record HasPlaces (channels most : ℕ) (c : FrameChoice) : Type 0 where
  pub many : channels ≤ length c.subframes.items
  pub codings : AllHaveCodings most c.subframes.items

-- what was chosen for the samples from an index on up to another
abbrev pub IsRangeByPlane : Lists → Sound → (start end number : ℕ) → FrameChoice → Type 0
IsRangeByPlane lists sound start end number c = IsChoiceByPlane lists sound (end - start) number (block_of start (end - start) sound.channels) c

abbrev pub IsRangeWith : List LinearPredictor → Sound → (start end number : ℕ) → FrameChoice → Type 0
IsRangeWith ps sound start end number c = IsChoiceWith ps sound (end - start) number (block_of start (end - start) sound.channels) c

-- a choice is one for each block for which another is
abbrev pub SameByPlane : FrameChoice → FrameChoice → Type 0
SameByPlane c d = (lists : Lists) (sound : Sound) (size number : ℕ) (block : List (List ℤ)) → IsChoiceByPlane lists sound size number block c → IsChoiceByPlane lists sound size number block d

abbrev pub SameWith : FrameChoice → FrameChoice → Type 0
SameWith c d = (ps : List LinearPredictor) (sound : Sound) (size number : ℕ) (block : List (List ℤ)) → IsChoiceWith ps sound size number block c → IsChoiceWith ps sound size number block d

-- it was made for some block, and the frame of each such block has this number of bytes
abbrev pub IsMadeByPlane : Sound → (size number : ℕ) → FrameChoice → Type 0
IsMadeByPlane sound size number c = (lists : Lists) × (block : List (List ℤ)) × IsChoiceByPlane lists sound size number block c

abbrev pub HasBytesByPlane : Sound → (size number : ℕ) → FrameChoice → ℕ → Type 0
HasBytesByPlane sound size number c bytes = (lists : Lists) (block : List (List ℤ)) (is : IsChoiceByPlane lists sound size number block c) → length (frame_spelling sound.bits is.form) ≡ 8 * bytes

abbrev pub IsMadeWith : Sound → (size number : ℕ) → FrameChoice → Type 0
IsMadeWith sound size number c = (ps : List LinearPredictor) × (block : List (List ℤ)) × IsChoiceWith ps sound size number block c

abbrev pub HasBytesWith : Sound → (size number : ℕ) → FrameChoice → ℕ → Type 0
HasBytesWith sound size number c bytes = (ps : List LinearPredictor) (block : List (List ℤ)) (is : IsChoiceWith ps sound size number block c) → length (frame_spelling sound.bits is.form) ≡ 8 * bytes
