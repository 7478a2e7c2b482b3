-- How a subframe is spelled, and which forms may be (RFC 9639, section 9.2).
use Rattle.std.specs.Prelude.{◌≡◌, ℕ, zero, suc, ◌+◌, ◌-◌, ◌/◌, ◌%◌, ◌^◌, ◌<◌, ◌≤◌, Bool, true, List, [], ◌∷◌, length, flat_map, ℤ, pos, All}
use Rattle.flac_bits.specs.Bits.{unsigned}
use Rattle.flac_bits.specs.Forms.{joined}
use Rattle.flac_bits.specs.Meaning.{unary_bits}
use Rattle.flac_bits.specs.Rice.{IsResidual, folded}
use Rattle.flac_bits.specs.Signed.{signed, FitsBits}
use Rattle.flac_subframe.specs.declared.format.limits.Limits.{Limits}
use Rattle.flac_subframe.specs.declared.format.coding.Coding.{Coding}
use Rattle.flac_subframe.specs.declared.format.coding.Coding.TheVariants.{Rice, Escape}
use Rattle.flac_subframe.specs.format.Residual.{Partition, Residual, can_halve}
use Rattle.flac_subframe.specs.format.Subframe.{Content, Constant, Verbatim, Fixed, Linear, Predictor, Form}

-- A value under a Rice parameter: its quotient in zeros, a one, and its lowest bits (section 9.2.7.3).
unfoldable pub value_spelling : ℕ → ℤ → List Bool
value_spelling k r = joined (unary_bits (folded r / 2 ^ k) ∷ unsigned k (folded r % 2 ^ k) ∷ [])

-- The values of a partition under a coding, with a parameter of w bits, of which all ones are an escape
-- (section 9.2.7.1).
unfoldable pub coding_spelling : ℕ → Coding → List ℤ → List Bool
coding_spelling w (Rice k) values = joined (unsigned w k ∷ flat_map (value_spelling k) values ∷ [])
coding_spelling w (Escape n) values = joined (unsigned w (2 ^ w - 1) ∷ unsigned 5 n ∷ flat_map (signed n) values ∷ [])

abbrev pub partition_spelling : ℕ → Partition → List Bool
partition_spelling w p = coding_spelling w p.coding p.values

-- The method, the partition order and the partitions (section 9.2.7).
unfoldable pub residual_spelling : Residual → List Bool
residual_spelling r = joined (joined (unsigned 2 r.method ∷ unsigned 4 r.order ∷ []) ∷ flat_map (partition_spelling (4 + r.method)) r.partitions ∷ [])

-- The precision less one, the shift and the coefficients (section 9.2.6).
unfoldable pub predictor_spelling : Predictor → List Bool
predictor_spelling p = joined (unsigned 4 (p.precision - 1) ∷ unsigned 5 p.shift ∷ flat_map (signed p.precision) p.coefficients ∷ [])

-- The content by its type (sections 9.2.3 to 9.2.6).
unfoldable pub content_spelling : ℕ → Content → List Bool
content_spelling depth (Constant sample) = signed depth sample
content_spelling depth (Verbatim samples) = flat_map (signed depth) samples
content_spelling depth (Fixed warm_up rest) = joined (flat_map (signed depth) warm_up ∷ residual_spelling rest ∷ [])
content_spelling depth (Linear warm_up chosen rest) = joined (flat_map (signed depth) warm_up ∷ predictor_spelling chosen ∷ residual_spelling rest ∷ [])

-- The type of a subframe (section 9.2.1).
abbrev pub type_of : Content → ℕ
type_of (Constant sample) = 0
type_of (Verbatim samples) = 1
type_of (Fixed warm_up rest) = 8 + length warm_up
type_of (Linear warm_up chosen rest) = 31 + length warm_up

-- The flag of the wasted bits, and one zero fewer than their number before a one (section 9.2.2).
abbrev pub flag_of : ℕ → ℕ
flag_of zero = 0
flag_of (suc k) = 1

abbrev pub wasted_spelling : ℕ → List Bool
wasted_spelling zero = []
wasted_spelling (suc k) = unary_bits k

unfoldable pub header_spelling : ℕ → ℕ → List Bool
header_spelling kind wasted = joined (unsigned 1 0 ∷ unsigned 6 kind ∷ unsigned 1 (flag_of wasted) ∷ wasted_spelling wasted ∷ [])

-- A subframe of a depth: header and content (section 9.2).
unfoldable pub subframe_spelling : ℕ → Form → List Bool
subframe_spelling depth f = joined (header_spelling (type_of f.content) f.wasted ∷ content_spelling (depth - f.wasted) f.content ∷ [])

-- ---- which forms may be spelled

-- a number of n bits; of no bits it is 0
abbrev pub FitsWidth : ℕ → ℤ → Type 0
FitsWidth zero z = z ≡ pos 0
FitsWidth (suc n) z = FitsBits (suc n) z

-- a coding and n values that it can write
abbrev pub IsCoded : ℕ → ℕ → Coding → List ℤ → Type 0
IsCoded w n (Rice k) values = (k + 1 < 2 ^ w) × (length values ≡ n) × All IsResidual values
IsCoded w n (Escape width) values = (width < 2 ^ 5) × (length values ≡ n) × All (FitsWidth width) values

-- a first partition of one length, and others of another
abbrev pub ArePartitions : ℕ → ℕ → ℕ → List Partition → Type 0
ArePartitions w first size [] = Unit {0}
ArePartitions w first size (p ∷ ps) = IsCoded w first p.coding p.values × ArePartitions w size size ps

-- a residual of a predictor of an order in a block, with a limit on the partition order
pub record MayLeave (limit order block : ℕ) (r : Residual) : Type 0 where
  pub method : r.method < 2
  pub field : r.order < 2 ^ 4
  pub allowed : r.order ≤ limit
  pub halves : can_halve block r.order order ≡ true
  pub many : length r.partitions ≡ 2 ^ r.order
  pub each : ArePartitions (4 + r.method) (block / 2 ^ r.order - order) (block / 2 ^ r.order) r.partitions

-- a linear predictor of an order
pub record MayPredict (order : ℕ) (p : Predictor) : Type 0 where
  pub some : 1 ≤ p.precision
  pub few : p.precision ≤ 15
  pub shift : p.shift ≤ 15
  pub many : length p.coefficients ≡ order
  pub fit : All (FitsWidth p.precision) p.coefficients

-- n numbers of `width` bits
pub record AreSigned (width n : ℕ) (zs : List ℤ) : Type 0 where
  pub many : length zs ≡ n
  pub fit : All (FitsWidth width) zs

-- a content in a block, of samples of `depth` bits
abbrev pub MayHold : ℕ → ℕ → Limits → Content → Type 0
MayHold depth block limits (Constant sample) = FitsWidth depth sample
MayHold depth block limits (Verbatim samples) = AreSigned depth block samples
MayHold depth block limits (Fixed warm_up rest) = (length warm_up ≤ 4) × (length warm_up < block) × AreSigned depth (length warm_up) warm_up × MayLeave limits.partition (length warm_up) block rest
MayHold depth block limits (Linear warm_up chosen rest) = (1 ≤ length warm_up) × (length warm_up ≤ limits.linear) × (length warm_up < block) × AreSigned depth (length warm_up) warm_up
    × MayPredict (length warm_up) chosen × MayLeave limits.partition (length warm_up) block rest

-- a form of a depth: one bit of it at least is not wasted
pub record IsSubframe (depth block : ℕ) (limits : Limits) (f : Form) : Type 0 where
  pub left : f.wasted < depth
  pub content : MayHold (depth - f.wasted) block limits f.content
