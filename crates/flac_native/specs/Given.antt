-- What is encoded: STREAMINFO, blocks, and samples that are cut into frames.
use Rattle.flac_subframe.specs.format.Handed.{coefficients_in, AreWithin}
use Rattle.std.specs.Prelude.{◌≡◌, ◌<◌, ◌≤◌, ℕ, zero, suc, ◌+◌, ◌-◌, ◌*◌, ◌/◌, ◌^◌, min, Bool, true, false, not, cond, ◌&&◌, ◌||◌, nat_eq, nat_lt, nat_le, List, [], ◌∷◌, ◌++◌, length, map, slice_index_or, All, Option, Some, None, Vec, Result, MatchResult}
use Rattle.std.specs.Global.{Global}
use Rattle.std.specs.List.{list_all}
use Rattle.std.specs.Option.{option_or}
use Rattle.flac_bits.specs.Bits.{is_nil, bit_value}
use Rattle.flac_info.specs.Info.{Info}
use Rattle.flac_meta.specs.declared.block.Block.{Block}
use Rattle.flac_meta.specs.declared.block.Block.TheVariants as blocks
use Rattle.flac_header.specs.Header.{allows_block}
use Rattle.flac_header.specs.declared.subset.Profile.{Profile}
use Rattle.flac_header.specs.declared.subset.Profile.TheVariants.{Subset, Lax}
use Rattle.flac_subframe.specs.search.Capacity.{Capacity}
use Rattle.flac_subframe.specs.declared.format.linear.LinearPredictor.{LinearPredictor}
use Rattle.flac_frame.specs.Frame.{Frame, limits_at}
use Rattle.flac_frame.specs.Audio.{Sound, samples_each}
use Rattle.flac_frame.specs.Encoding.{block_of, most_in}
use Rattle.flac_frame.specs.PlaneLists.{Lists}
use Rattle.flac_frame.specs.Setup.{format_fault}
use Rattle.flac_frame.specs.declared.setup.SetupFault.{SetupFault}
use Rattle.flac_frame.specs.declared.setup.SetupFault.TheVariants.{TooLong, BadBlockSize, TooManyPoints, PredictorOrder, TooManyPredictors}
use Rattle.flac_native.specs.Message.{sample_width, rows_bytes}
use Rattle.flac_native.specs.declared.plan.Asked.{Asked}
use Rattle.flac_native.specs.Stream.{Piece, marked, block, framed}
use Rattle.md5.specs.Md5.{md5}

-- ---- a plan

-- How samples are cut: the samples of a block; the profile, the sample rate, the bits per sample, the channels and the
-- samples of each that the plan was made for; the samples from one seek point to the next, 0 if there are none; and the
-- linear predictors that are tried beside the fixed ones: one list for all frames, and for each of the first frames a
-- list for each plane, or for the first planes.
pub record Cut : Type 0 where
  pub profile : Profile
  pub block_size : ℕ
  pub rate : ℕ
  pub bits : ℕ
  pub channels : ℕ
  pub total : ℕ
  pub seek_every : ℕ
  pub predictors : List LinearPredictor
  pub found : List (List (List LinearPredictor))

-- a plan for these samples, without predictors
abbrev pub cut_in : Profile → (block_size : ℕ) → Sound → (seek_every : ℕ) → Cut
cut_in profile block_size a seek_every = record {
  profile = profile;
  block_size = block_size;
  rate = a.rate;
  bits = a.bits;
  channels = length a.channels;
  total = samples_each a.channels;
  seek_every = seek_every;
  predictors = [];
  found = [];
}

-- what is asked of a plan, before it has predictors
abbrev pub cut_asked : Asked → Cut
cut_asked a = record {
  profile = a.profile;
  block_size = a.block_size;
  rate = a.rate;
  bits = a.bits;
  channels = a.channels;
  total = a.total;
  seek_every = a.seek_every;
  predictors = [];
  found = [];
}

-- a plan in the profile of the samples
abbrev pub cut_of : (block_size : ℕ) → Sound → (seek_every : ℕ) → Cut
cut_of block_size a seek_every = cut_in a.profile block_size a seek_every

-- the predictors in an optional vector
abbrev pub listed : Option (Vec LinearPredictor Global) → List LinearPredictor
listed None = []
listed (Some v) = v.items

-- the same plan with these predictors for all frames, and no list for a frame of its own
abbrev pub with_predictors : Cut → List LinearPredictor → Cut
with_predictors p ps = record p { predictors = ps; found = [] }

-- the lists in vectors: of the planes of a frame, and of the first frames
abbrev pub plane_lists : List (Vec LinearPredictor Global) → List (List LinearPredictor)
plane_lists lists = map (λ (l : Vec LinearPredictor Global). l.items) lists

abbrev pub frame_lists : List (Vec (Vec LinearPredictor Global) Global) → List (List (List LinearPredictor))
frame_lists frames = map (λ (f : Vec (Vec LinearPredictor Global) Global). plane_lists f.items) frames

abbrev pub listed_frames : Option (Vec (Vec (Vec LinearPredictor Global) Global) Global) → List (List (List LinearPredictor))
listed_frames None = []
listed_frames (Some v) = frame_lists v.items

-- no order in them is above a limit
abbrev pub AreFoundWithin : (limit : ℕ) → List (List (List LinearPredictor)) → Type 0
AreFoundWithin limit found = All (All (AreWithin limit)) found

-- the same plan with lists of predictors for the planes of the first frames
abbrev pub with_found : Cut → List (List (List LinearPredictor)) → Cut
with_found p found = record p { found = found }

-- The linear predictors that are tried for each plane of the frame of a number: those of the plane's own list, or if it
-- has none, those of the list for all frames. Two channels have the planes left, right, side and middle; otherwise each
-- channel is one (RFC 9639, section 4.2).
abbrev pub tried : Cut → (number : ℕ) → Lists
tried p number = λ plane. slice_index_or (slice_index_or p.found number []) plane p.predictors

abbrev pub same_profile : Profile → Profile → Bool
same_profile Subset Subset = true
same_profile Subset Lax = false
same_profile Lax Subset = false
same_profile Lax Lax = true

-- these are samples that the plan was made for
abbrev pub fits_plan : Cut → Sound → Bool
fits_plan p a =
    same_profile p.profile a.profile && nat_eq p.rate a.rate && nat_eq p.bits a.bits && nat_eq p.channels (length a.channels) && nat_eq p.total (samples_each a.channels)

-- working arrays that have room for the plan's frames
abbrev pub room_of : Cut → Capacity
room_of p = record { block = p.block_size; most = most_in p.profile }

-- how many blocks hold `total` samples
abbrev pub blocks_in : (block_size total : ℕ) → ℕ
blocks_in block_size total = (total + (block_size - 1)) / block_size

-- how many samples the block of a number has: the last has the rest
abbrev pub size_of : (block_size total number : ℕ) → ℕ
size_of block_size total number = min block_size (total - block_size * number)

-- Where the samples of the block of a number are in each channel: they begin at `from` and end before `to`.
pub record IsRange (p : Cut) (a : Sound) (number from to : ℕ) : Type 0 where
  pub start : from ≡ p.block_size * number
  pub size : to - from ≡ size_of p.block_size (samples_each a.channels) number
  pub some : from < to
  pub within : to ≤ samples_each a.channels
  pub room : to - from ≤ p.block_size
  pub few : number < 2 ^ 31

-- The frame of a number has a seek point: one of its samples has a number that is a multiple of `every`, since the
-- first multiple at or after its first sample is below its end.
unfoldable pub has_point : (block_size total every number : ℕ) → Bool
has_point block_size total every number =
    nat_lt 0 every && nat_lt (every * blocks_in every (block_size * number)) (block_size * number + size_of block_size total number)

-- how many of the first n frames have one
abbrev pub points_before : (block_size total every n : ℕ) → ℕ
points_before block_size total every zero = 0
points_before block_size total every (suc n) = points_before block_size total every n + bit_value (has_point block_size total every n)

-- the order of each of these predictors is at most `greatest`
abbrev pub orders_fit : (greatest : ℕ) → List LinearPredictor → Bool
orders_fit greatest ps = list_all (λ x. nat_le (length (coefficients_in x)) greatest) ps

-- Why linear predictors cannot be tried, if so: there are more than 64, or one has an order that the profile does not
-- allow at the rate (RFC 9639, sections 7 and 9.2.6).
unfoldable pub predictors_fault : Profile → (rate : ℕ) → List LinearPredictor → Option SetupFault
predictors_fault profile rate ps =
    cond (nat_lt 64 (length ps)) (Some TooManyPredictors) (cond (not (orders_fit (limits_at profile rate).linear ps)) (Some PredictorOrder) None)

-- Why samples whose format can be encoded cannot be cut into blocks, if so. A block has 16 samples or more (RFC 9639,
-- section 8.2), and no more than the profile allows at the rate (section 7); a frame number has 31 bits
-- (section 9.1.5), and the number of samples 36 (section 8.2); the points of a seek table, each of 18 bytes, are in one
-- block (sections 8.1 and 8.5); or the predictors cannot be tried.
unfoldable pub cutting_fault : Cut → Option SetupFault
cutting_fault p =
    cond (not (allows_block p.profile p.block_size p.rate)) (Some BadBlockSize)
    (cond (nat_le (2 ^ 36) p.total || nat_lt (2 ^ 31) (blocks_in p.block_size p.total)) (Some TooLong)
    (cond (nat_lt 932067 (points_before p.block_size p.total p.seek_every (blocks_in p.block_size p.total))) (Some TooManyPoints)
    (predictors_fault p.profile p.rate p.predictors)))

-- Why samples of a format cannot be cut into blocks, if so: no frame header of the profile, or no STREAMINFO, can have
-- the format, which is the case for no samples that can be encoded (sections 7, 8.2 and 9.1), or else the reason above.
unfoldable pub plan_fault : Cut → Option SetupFault
plan_fault p = option_or (format_fault p.profile p.rate p.bits p.channels) (cutting_fault p)

-- the plan is made, or else this is why it cannot be
abbrev pub MakesPlan : Cut → Result Cut SetupFault → Type 0
MakesPlan p result = MatchResult result (λ q. q ≡ p) (λ e. plan_fault p ≡ Some e)

-- the plan gets these predictors, or else this is why it cannot have them
abbrev pub GetsPredictors : Cut → List LinearPredictor → Result Cut SetupFault → Type 0
GetsPredictors p ps result = MatchResult result (λ q. q ≡ with_predictors p ps) (λ e. predictors_fault p.profile p.rate ps ≡ Some e)

-- ---- what is written

-- the MD5 input (section 8.2): all samples
unfoldable pub sound_message : Sound → List ℕ
sound_message a = rows_bytes (sample_width a.bits) a.channels (samples_each a.channels) 0

-- STREAMINFO with the smallest and the largest frame size in bytes (section 8.2)
abbrev pub info_of : Cut → Sound → (least greatest : ℕ) → Info
info_of p a least greatest = record {
  least_block = p.block_size;
  greatest_block = p.block_size;
  least_frame = least;
  greatest_frame = greatest;
  rate = a.rate;
  channels = length a.channels;
  depth = a.bits;
  total = samples_each a.channels;
  digest = md5 (sound_message a);
}

-- the frame of a number: frames are counted from 0 (section 9.1.5)
abbrev pub frame_of : (block_size : ℕ) → Sound → ℕ → Frame
frame_of block_size a number = record {
  variable = false;
  number = number;
  size = size_of block_size (samples_each a.channels) number;
  channels = block_of (block_size * number) (size_of block_size (samples_each a.channels) number) a.channels;
}

-- n frames from one on
abbrev pub frames_from : (block_size : ℕ) → Sound → (n number : ℕ) → List Frame
frames_from block_size a zero number = []
frames_from block_size a (suc n) number = frame_of block_size a number ∷ frames_from block_size a n (number + 1)

-- all samples as frames
abbrev pub frames_of : (block_size : ℕ) → Sound → List Frame
frames_of block_size a = frames_from block_size a (blocks_in block_size (samples_each a.channels)) 0

-- blocks, of which the last is marked (section 8.1)
abbrev pub closing : List Block → List Piece
closing [] = []
closing (b ∷ bs) = block (is_nil bs) b ∷ closing bs

-- the parts of the stream: the marker, STREAMINFO with the smallest and the largest frame size in bytes, the blocks and
-- the frames
abbrev pub given : Cut → List Block → Sound → (least greatest : ℕ) → List Piece
given p list a least greatest = marked ∷ (closing (blocks.StreamInfo (info_of p a least greatest) ∷ list) ++ map framed (frames_of p.block_size a))
