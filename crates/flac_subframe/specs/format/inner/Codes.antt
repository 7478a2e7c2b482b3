-- For proofs of reading: the codes of the format that the code has as enums.
use Rattle.std.specs.Prelude.{ℕ, ◌≤◌, ◌+◌}
use Rattle.flac_subframe.specs.declared.format.subframe_type.SubframeType.{SubframeType}
use Rattle.flac_subframe.specs.declared.format.subframe_type.SubframeType.TheVariants.{Constant, Verbatim, Fixed, Linear}
use Rattle.flac_subframe.specs.declared.format.coding_method.CodingMethod.{CodingMethod}
use Rattle.flac_subframe.specs.declared.format.coding_method.CodingMethod.TheVariants.{FourBits, FiveBits}

-- the six bits of a type (RFC 9639, section 9.2.1)
abbrev pub type_code : SubframeType → ℕ
type_code Constant = 0
type_code Verbatim = 1
type_code (Fixed order) = 8 + order
type_code (Linear order) = 31 + order

-- the order of its predictor, 0 if it has none
abbrev pub type_order : SubframeType → ℕ
type_order Constant = 0
type_order Verbatim = 0
type_order (Fixed order) = order
type_order (Linear order) = order

-- the order of its linear predictor, 0 if it has none
abbrev pub type_linear_order : SubframeType → ℕ
type_linear_order Constant = 0
type_linear_order Verbatim = 0
type_linear_order (Fixed order) = 0
type_linear_order (Linear order) = order

-- the order is one that the type may have
abbrev pub IsType : SubframeType → Type 0
IsType Constant = Unit {0}
IsType Verbatim = Unit {0}
IsType (Fixed order) = order ≤ 4
IsType (Linear order) = (1 ≤ order) × (order ≤ 32)

-- the two bits of a coding method (section 9.2.7)
abbrev pub method_code : CodingMethod → ℕ
method_code FourBits = 0
method_code FiveBits = 1
