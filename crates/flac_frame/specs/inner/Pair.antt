-- For proofs of the search: the shortest of the ways to store two channels.
use Rattle.std.specs.Prelude.{◌≡◌, ℕ, ◌+◌, ◌≤◌, ◌<◌, ◌⊎◌, cond, nat_eq, ℤ, List, length, slice_set, All, Some}
use Rattle.flac_bits.specs.Signed.{FitsBits}
use Rattle.flac_subframe.specs.declared.format.limits.Limits.{Limits}
use Rattle.flac_subframe.specs.declared.format.linear.LinearPredictor.{LinearPredictor}
use Rattle.flac_subframe.specs.declared.search.wide_choice.WideChoice.{WideChoice}
use Rattle.flac_subframe.specs.search.Choices.{IsMadeIn, form_in}
use Rattle.flac_subframe.specs.format.Handed.{AreWithin}
use Rattle.flac_subframe.specs.format.Spelling.{subframe_spelling, IsSubframe}
use Rattle.flac_subframe.specs.format.Subframe.{Form, samples_of}
use Rattle.flac_frame.specs.inner.Encoding.{IsLeastFor}
use Rattle.flac_frame.specs.PlaneLists.{Lists}
use Rattle.flac_frame.specs.Stereo.{side_of, middle_of, kept_as}
use Rattle.flac_frame.specs.Audio.{Sound}
use Rattle.flac_frame.specs.Chosen.{AllHaveCodings}
use Rattle.flac_frame.specs.Encoding.{block_of}
use Rattle.flac_frame.specs.Frame.{side_bit}
use Rattle.flac_frame.specs.Pair.{HaveCodings}
use Rattle.flac_frame.specs.declared.pair_choices.PairChoices.{PairChoices}

-- the codes of two channels (RFC 9639, section 9.1.3)
abbrev pub IsPairCode : ℕ → Type 0
IsPairCode code = (code ≡ 1) ⊎ (code ≡ 8) ⊎ (code ≡ 9) ⊎ (code ≡ 10)

-- how many bits two subframes take under a code, from what those of left, right, side and middle take
abbrev pub pair_cost : (left right side middle code : ℕ) → ℕ
pair_cost left right side middle code = cond (nat_eq code 8) (left + side) (cond (nat_eq code 9) (side + right) (cond (nat_eq code 10) (middle + side) (left + right)))

-- no code costs less, and smaller codes cost more
pub record IsFirstLeast (cost : ℕ → ℕ) (code : ℕ) : Type 0 where
  pub one : IsPairCode code
  pub least : (c : ℕ) → IsPairCode c → cost code ≤ cost c
  pub first : (c : ℕ) → IsPairCode c → c < code → cost code < cost c

-- a shortest form of samples, which may be spelled, has them, and takes `bits` bits
pub record IsChosen (most : ℕ) (ps : List LinearPredictor) (depth : ℕ) (s : List ℤ) (f : Form) (bits : ℕ) : Type 0 where
  pub least : IsLeastFor most ps depth s f
  pub cost : bits ≡ length (subframe_spelling depth f)
  pub valid : (limits : Limits) → most ≤ limits.partition → AreWithin limits.linear ps → IsSubframe depth (length s) limits f
  pub samples : samples_of depth (length s) f ≡ Some s

-- what was chosen for samples is a shortest form of them
pub record IsPlane (most : ℕ) (ps : List LinearPredictor) (depth : ℕ) (s : List ℤ) (c : WideChoice) : Type 0 where
  pub chosen : IsChosen most ps depth s (form_in ps c s) c.bits
  pub made : IsMadeIn ps c s

-- what was chosen for left and right, for their side and for their middle (section 4.2), each with its own list
pub record ArePlanes (most : ℕ) (lists : Lists) (depth : ℕ) (left right : List ℤ) (c : PairChoices) : Type 0 where
  pub lefts : IsPlane most (lists 0) depth left c.left
  pub rights : IsPlane most (lists 1) depth right c.right
  pub sides : IsPlane most (lists 2) (depth + 1) (side_of left right) c.side
  pub middles : IsPlane most (lists 3) depth (middle_of left right) c.middle

-- how many bits two subframes take under a code
abbrev pub choices_cost : PairChoices → ℕ → ℕ
choices_cost c code = pair_cost c.left.bits c.right.bits c.side.bits c.middle.bits code

-- which of the choices a code stores first, and which second
abbrev pub first_kept : ℕ → PairChoices → WideChoice
first_kept code c = cond (nat_eq code 9) c.side (cond (nat_eq code 10) c.middle c.left)

abbrev pub second_kept : ℕ → PairChoices → WideChoice
second_kept code c = cond (nat_eq code 8) c.side (cond (nat_eq code 9) c.right (cond (nat_eq code 10) c.side c.right))

-- places with these two in front
abbrev pub with_kept : ℕ → PairChoices → List WideChoice → List WideChoice
with_kept code c places = slice_set (slice_set places 0 (first_kept code c)) 1 (second_kept code c)

-- arrays that are long enough stay so
abbrev pub KeepsCodings : PairChoices → List WideChoice → PairChoices → List WideChoice → Type 0
KeepsCodings c places c' places' = (most : ℕ) → HaveCodings most c → AllHaveCodings most places → HaveCodings most c' × AllHaveCodings most places'

-- if two channels fit a depth, what a code stores of them fits it too, the side with one bit more (section 9.2.3)
abbrev pub FitAsKept : ℕ → (left right first second : List ℤ) → Type 0
FitAsKept code left right first second =
    (depth : ℕ) → 1 ≤ depth → All (FitsBits depth) left → All (FitsBits depth) right → All (FitsBits (depth + side_bit code 0)) first × All (FitsBits (depth + side_bit code 1)) second

-- what a code stores of a block of samples
abbrev pub kept_block : ℕ → Sound → (start size : ℕ) → List (List ℤ)
kept_block code sound start size = kept_as code (block_of start size sound.channels)
