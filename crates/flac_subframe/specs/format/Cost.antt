-- Which codings a residual may have.
use Rattle.std.specs.Prelude.{ℕ, ℤ, ◌≡◌, ◌+◌, ◌-◌, ◌/◌, ◌%◌, ◌^◌, ◌<◌, ◌≤◌, ◌⊎◌, cond, nat_lt, List, [], ◌∷◌, length, map, take, drop, All}
use Rattle.flac_subframe.specs.declared.format.coding.Coding.{Coding}
use Rattle.flac_subframe.specs.declared.format.coding.Coding.TheVariants.{Rice, Escape}
use Rattle.flac_subframe.specs.declared.format.coding_method.CodingMethod.{CodingMethod}
use Rattle.flac_subframe.specs.declared.format.coding_method.CodingMethod.TheVariants.{FourBits, FiveBits}
use Rattle.flac_subframe.specs.declared.format.residual_form.ResidualForm.{ResidualForm}
use Rattle.flac_subframe.specs.format.Spelling.{FitsWidth}

-- the codings that a partition may have
abbrev pub MayCode : ℕ → List ℤ → Coding → Type 0
MayCode w rs (Rice k) = k + 1 < 2 ^ w
MayCode w rs (Escape n) = (n < 32) × All (FitsWidth n) rs

-- a coding for each partition: the first of one size, and the others of another
abbrev pub MayCodeEach : ℕ → ℕ → ℕ → List ℤ → List Coding → Type 0
MayCodeEach w first size rs [] = Unit {0}
MayCodeEach w first size rs (c ∷ cs) = MayCode w (take first rs) c × MayCodeEach w size size (drop first rs) cs

-- What a residual's writer chose: the bits of a parameter, the partition order, and a coding for each partition.
pub record Codings : Type 0 where
  pub parameter_bits : ℕ
  pub partition_order : ℕ
  pub codings : List Coding

-- Codings for the residual rs of a predictor of an order, with a partition order of at most `most`. The warm-up samples
-- and the residual make the block.
pub record MayWrite (most order : ℕ) (rs : List ℤ) (f : Codings) : Type 0 where
  pub method : (f.parameter_bits ≡ 4) ⊎ (f.parameter_bits ≡ 5)
  pub few : f.partition_order ≤ most
  pub even : (length rs + order) % 2 ^ f.partition_order ≡ 0
  pub room : order < (length rs + order) / 2 ^ f.partition_order
  pub each : length f.codings ≡ 2 ^ f.partition_order
  pub codings : MayCodeEach f.parameter_bits ((length rs + order) / 2 ^ f.partition_order - order) ((length rs + order) / 2 ^ f.partition_order) rs f.codings

-- the coding of a byte: below 32 a Rice parameter, and from 32 on the width of an escape
unfoldable pub coding_of : ℕ → Coding
coding_of n = cond (nat_lt n 32) (Rice n) (Escape (n - 32))

-- how many bits a Rice parameter has under a coding method (RFC 9639, section 9.2.7)
abbrev pub parameter_bits_of : CodingMethod → ℕ
parameter_bits_of FourBits = 4
parameter_bits_of FiveBits = 5

-- the form of a residual and the bytes of its codings
abbrev pub codings_of : ResidualForm → List ℕ → Codings
codings_of f bytes = record { parameter_bits = parameter_bits_of f.method; partition_order = f.partition_order; codings = map coding_of bytes }

-- the same of bytes in an array, which may be longer
abbrev pub codings_in : ResidualForm → List ℕ → Codings
codings_in f bytes = codings_of f (take (2 ^ f.partition_order) bytes)
