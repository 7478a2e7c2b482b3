-- For proofs of the search: the smallest cost, without what has it.
use Rattle.std.specs.Prelude.{ℕ, ℤ, ◌≡◌, List}
use Rattle.flac_subframe.specs.declared.format.coding.Coding.{Coding}
use Rattle.flac_subframe.specs.declared.format.coding_method.CodingMethod.{CodingMethod}
use Rattle.flac_subframe.specs.format.Cost.{MayCode, parameter_bits_of}
use Rattle.flac_subframe.specs.format.Least.{IsLeast}
use Rattle.flac_subframe.specs.format.inner.Cost.{coding_cost}

-- the coding is one of least cost that a partition may have under a method
abbrev pub IsLeastCoding : CodingMethod → List ℤ → Coding → Type 0
IsLeastCoding method rs c = IsLeast (MayCode (parameter_bits_of method) rs) (λ c. coding_cost c rs) c

-- something of the family costs n, and nothing of it costs less
pub record IsLeastCost {A : Type 0} (Member : A → Type 0) (cost : A → ℕ) (n : ℕ) : Type 0 where
  pub one : A
  pub least : IsLeast Member cost one
  pub is : n ≡ cost one
