-- The residual: values in partitions, each under a coding of its own (RFC 9639, section 9.2.7).
use Rattle.std.specs.Prelude.{ℕ, zero, suc, ◌+◌, ◌-◌, ◌/◌, ◌%◌, ◌^◌, Bool, nat_eq, nat_lt, ◌&&◌, not, ℤ, List, [], ◌∷◌, flat_map}
use Rattle.flac_bits.specs.Layout.{Layout, done, bits, judge, choose, ◌>>=◌}
use Rattle.flac_bits.specs.Lists.{list_of}
use Rattle.flac_bits.specs.Rice.{rice_value}
use Rattle.flac_bits.specs.declared.why.Why.TheVariants.{NotSubset, BadPartition}
use Rattle.flac_subframe.specs.declared.format.coding.Coding.{Coding}
use Rattle.flac_subframe.specs.declared.format.coding.Coding.TheVariants.{Rice, Escape}
use Rattle.flac_bits.specs.Signed.{signed_field}

pub record Partition : Type 0 where
  pub coding : Coding
  pub values : List ℤ

-- The coding method, the partition order, and the partitions (section 9.2.7).
pub record Residual : Type 0 where
  pub method : ℕ
  pub order : ℕ
  pub partitions : List Partition

-- n signed numbers of a width that comes before them; if it is 0, they are 0 and take no bits (section 9.2.7.1)
unfoldable pub escaped : ℕ → Layout Partition
escaped n = do
  width ← bits 5
  values ← list_of n (signed_field width)
  done (record { coding = Escape width; values = values })

-- n values under a Rice parameter (section 9.2.7.2)
unfoldable pub coded : ℕ → ℕ → Layout Partition
coded n parameter = list_of n (rice_value parameter) >>= λ values. done (record { coding = Rice parameter; values = values })

-- A partition of n values: a parameter of some bits, of which all ones are an escape (section 9.2.7.1).
unfoldable pub partition : ℕ → ℕ → Layout Partition
partition parameter_bits n = bits parameter_bits >>= λ parameter. choose (nat_eq parameter (2 ^ parameter_bits - 1)) (escaped n) (coded n parameter)

-- Partitions one after another: the first of one length, and the others of another.
unfoldable pub partitions : ℕ → ℕ → ℕ → ℕ → Layout (List Partition)
partitions parameter_bits first size zero = done []
partitions parameter_bits first size (suc n) = do
  one ← partition parameter_bits first
  others ← partitions parameter_bits size size n
  done (one ∷ others)

-- the partition order cuts the block into equal parts, each longer than the predictor's order (section 9.2.7)
abbrev pub can_halve : ℕ → ℕ → ℕ → Bool
can_halve block partition_order order = nat_eq (block % 2 ^ partition_order) 0 && nat_lt order (block / 2 ^ partition_order)

-- The coding method, 0 or 1, and the partition order, with a limit on it (section 9.2.7).
unfoldable pub residual_header : ℕ → ℕ → ℕ → Layout (ℕ × ℕ)
residual_header limit order block = do
  method ← bits 2
  _ ← judge (record { broken = nat_lt 1 method; why = BadPartition } ∷ [])
  partition_order ← bits 4
  _ ← judge (record { broken = nat_lt limit partition_order; why = NotSubset } ∷ record { broken = not (can_halve block partition_order order); why = BadPartition } ∷ [])
  done (method, partition_order)

-- The residual of a predictor of an order in a block: the method gives the bits of a parameter, 4 or 5; the first
-- partition lacks the values of the warm-up samples (section 9.2.7).
unfoldable pub residual : ℕ → ℕ → ℕ → Layout Residual
residual limit order block = do
  h ← residual_header limit order block
  parts ← partitions (4 + h.0) (block / 2 ^ h.1 - order) (block / 2 ^ h.1) (2 ^ h.1)
  done (record { method = h.0; order = h.1; partitions = parts })

abbrev pub all_values : List Partition → List ℤ
all_values parts = flat_map (λ p. p.values) parts

abbrev pub residual_values : Residual → List ℤ
residual_values r = all_values r.partitions
