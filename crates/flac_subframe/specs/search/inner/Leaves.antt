-- For proofs of the search: what is measured of the partitions of a residual before it is kept.
use Rattle.std.specs.Prelude.{ℕ, ℤ, ◌≡◌, ◌+◌, ◌*◌, ◌^◌, ◌≤◌, List, length, All}
use Rattle.std.specs.List.{sum_by}
use Rattle.flac_subframe.specs.declared.format.residual_form.ResidualForm.{ResidualForm}
use Rattle.flac_subframe.specs.declared.search.fixed_leaves.Leaf.{Leaf}
use Rattle.flac_subframe.specs.format.Bodies.{differences}
use Rattle.flac_subframe.specs.format.Cost.{Codings, MayWrite, codings_in}
use Rattle.flac_subframe.specs.format.Least.{IsLeast}
use Rattle.flac_subframe.specs.format.Prediction.{fixed_coefficients}
use Rattle.flac_subframe.specs.format.Spelling.{FitsWidth}
use Rattle.flac_subframe.specs.format.inner.Cost.{residual_cost, value_cost}
use Rattle.flac_subframe.specs.search.inner.Halves.{IsWidth}

-- what is known of the values of a partition is so
pub record IsLeaf (rs : List ℤ) (l : Leaf) : Type 0 where
  pub width : IsWidth rs l.width
  pub narrow : l.width ≤ 32
  pub bits : l.bits ≡ sum_by (value_cost 0) rs
  pub rice : (k : ℕ) → l.bound ≤ sum_by (value_cost k) rs
  pub escape : (n : ℕ) → All (FitsWidth n) rs → l.bound ≤ n * length rs
  pub small : l.bound ≤ 2 ^ 21

-- values after the warm-up samples of an order take at least n bits beside 6 of the header and 4 of each parameter
abbrev pub CostsAtLeastBeside : ℕ → ℕ → List ℤ → ℕ → Type 0
CostsAtLeastBeside most order rs n = (f : Codings) → MayWrite most order rs f → n + (6 + 4 * 2 ^ f.partition_order) ≤ residual_cost order rs f

-- the codings of a form are the shortest for such values; none takes fewer bits than n
abbrev pub HasLeastCodings : ℕ → ℕ → List ℤ → ResidualForm → List ℕ → Type 0
HasLeastCodings most order rs f bytes = IsLeast (MayWrite most order rs) (residual_cost order rs) (codings_in f bytes)

abbrev pub CostsAtLeast : ℕ → ℕ → List ℤ → ℕ → Type 0
CostsAtLeast most order rs n = (f : Codings) → MayWrite most order rs f → n ≤ residual_cost order rs f

-- what a fixed predictor leaves of the samples
abbrev pub left_by_fixed : ℕ → List ℤ → List ℤ
left_by_fixed order s = differences (fixed_coefficients order) 0 s
