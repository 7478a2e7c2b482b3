-- What is found for the blocks of some samples.
use Rattle.std.specs.Prelude.{ℕ, ℤ, ◌≡◌, ◌≤◌, ◌+◌, ◌-◌, ◌/◌, cond, nat_eq, nat_lt, List, ◌++◌, length, map, All}
use Rattle.flac_subframe.specs.declared.format.linear.LinearPredictor.{LinearPredictor}
use Rattle.flac_subframe.specs.format.Bodies.{Chooses}
use Rattle.flac_subframe.specs.format.Handed.{predictor_of, AreWithin}
use Rattle.flac_frame.specs.Audio.{Sound}
use Rattle.flac_frame.specs.Encoding.{IsLeastByPlane}
use Rattle.flac_frame.specs.PlaneLists.{Lists}
use Rattle.flac_frame.specs.Spelling.{FrameForm, frame_spelling}

-- A list begins with the predictors of another, in their order: each has the precision, the shift and the coefficients
-- of that one (RFC 9639, section 9.2.6). What comes after them may be any.
abbrev pub IsPrefixOf : List LinearPredictor → List LinearPredictor → Type 0
IsPrefixOf front ps = (rest : List Chooses) × (map predictor_of ps ≡ map predictor_of front ++ rest)

-- the list of each plane of each frame begins so
abbrev pub AllBegin : List LinearPredictor → List (List (List LinearPredictor)) → Type 0
AllBegin front found = All (All (IsPrefixOf front)) found

-- predictors of orders 1 to 12 were added to a list, the orders that each profile allows at each rate (section 7)
abbrev pub Extends : List LinearPredictor → List LinearPredictor → Type 0
Extends old new = (more : List LinearPredictor) × (new ≡ old ++ more) × AreWithin 12 more

-- a list has the same predictors as the given one, and after them such others
abbrev pub IsFoundAfter : (given : List LinearPredictor) → List LinearPredictor → Type 0
IsFoundAfter given list = (copy : List LinearPredictor) × (map predictor_of copy ≡ map predictor_of given) × Extends copy list

-- How many lists a block of `size` samples of each channel has: one for each plane, which two channels have four of, and
-- others one each (section 4.2); and none if it has fewer than 64 samples.
abbrev pub lists_due : Sound → (size : ℕ) → ℕ
lists_due a size = cond (nat_lt size 64) 0 (cond (nat_eq (length a.channels) 2) 4 (length a.channels))

-- how many blocks hold `total` samples of each channel, of which the last may be shorter
abbrev pub blocks_of : (block_size total : ℕ) → ℕ
blocks_of block_size total = (total + (block_size - 1)) / block_size

-- a shortest frame of a block over the predictors of each plane's list is no longer than one over the first ones of
-- these lists
abbrev pub MoreShorten : Type 0
MoreShorten = (front lists : Lists) (sound : Sound) (size number : ℕ) (block : List (List ℤ)) (f g : FrameForm) → ((plane : ℕ) → IsPrefixOf (front plane) (lists plane))
    → IsLeastByPlane front sound size number block f → IsLeastByPlane lists sound size number block g → length (frame_spelling sound.bits g) ≤ length (frame_spelling sound.bits f)
