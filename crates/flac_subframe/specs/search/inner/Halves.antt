-- For proofs of the search: the partitions of a residual at each partition order, and the best coding of each so far.
use Rattle.std.specs.Prelude.{ℕ, ℤ, ◌≡◌, ◌+◌, ◌-◌, ◌*◌, ◌/◌, ◌%◌, ◌^◌, ◌<◌, ◌≤◌, List, length, take, drop, map, slice_index, All, ◌↔◌}
use Rattle.std.specs.List.{sum_by}
use Rattle.flac_bits.specs.Rice.{IsResidual, folded}
use Rattle.flac_subframe.specs.format.inner.Cost.{value_cost}
use Rattle.flac_subframe.specs.search.inner.Entry.{entry_number, no_entry}
use Rattle.flac_subframe.specs.declared.search.tables.Tables.{Tables}
use Rattle.flac_subframe.specs.declared.search.tables.SearchArrays.{SearchArrays}
use Rattle.flac_subframe.specs.format.Spelling.{FitsWidth}

-- the index at which the partition j begins, after the warm-up samples
abbrev pub start : ℕ → ℕ → ℕ → ℕ → ℕ
start order block p j = j * (block / 2 ^ p) - order

abbrev pub segment : ℕ → ℕ → List ℤ → List ℤ
segment a b rs = take (b - a) (drop a rs)

-- the values of the partition j at the partition order p
unfoldable pub part : ℕ → List ℤ → ℕ → ℕ → List ℤ
part order rs p j = segment (start order (length rs + order) p j) (start order (length rs + order) p (j + 1)) rs

-- the block may have the partition order p
pub record Halves (order : ℕ) (rs : List ℤ) (p : ℕ) : Type 0 where
  pub even : (length rs + order) % 2 ^ p ≡ 0
  pub room : order < (length rs + order) / 2 ^ p

-- the entry of the partition j at the partition order p
abbrev pub entry : List ℕ → ℕ → ℕ → ℕ
entry table p j = slice_index table (2 ^ p + j)

-- the entry is the smallest of those of the Rice parameters below k; for k = 0 it is the one before any is compared
pub record LeastBelow (k : ℕ) (rs : List ℤ) (e : ℕ) : Type 0 where
  pub none : k ≡ 0 → e ≡ no_entry
  pub some : 0 < k → (n : ℕ) × (n < k) × (e ≡ entry_number n (sum_by (value_cost n) rs))
  pub least : (n : ℕ) → n < k → e ≤ entry_number n (sum_by (value_cost n) rs)

-- the entries of the partitions at each partition order up to `high`
abbrev pub HasEntries : ℕ → ℕ → List ℤ → ℕ → List ℕ → Type 0
HasEntries k order rs high table = (p j : ℕ) → p ≤ high → j < 2 ^ p → LeastBelow k (part order rs p j) (entry table p j)

-- exactly the widths from w on hold each value
abbrev pub IsWidth : List ℤ → ℕ → Type 0
IsWidth rs w = (n : ℕ) → (All (FitsWidth n) rs ↔ (w ≤ n))

-- the widths of the partitions at the partition orders from `low` to `high`, each at its index
abbrev pub HasWidths : ℕ → List ℤ → ℕ → ℕ → List ℕ → Type 0
HasWidths order rs low high widths = (p j : ℕ) → low ≤ p → p ≤ high → j < 2 ^ p → IsWidth (part order rs p j) (slice_index widths (2 ^ p + j)) × (slice_index widths (2 ^ p + j) ≤ 32)

-- the arrays of a search are long enough for partition orders up to `most`
pub record HasPlaces (most : ℕ) (t : Tables) : Type 0 where
  pub leaves : 2 ^ most ≤ length t.leaves.now
  pub sums : 2 ^ most ≤ length t.sums.now
  pub four : 2 * 2 ^ most ≤ length t.four.now
  pub five : 2 * 2 ^ most ≤ length t.five.now
  pub widths : 2 * 2 ^ most ≤ length t.widths.now
  pub codings : 2 ^ most ≤ length t.codings.now

-- the arrays for a residual are long enough for n samples
pub record HasRoom (n : ℕ) (a : SearchArrays) : Type 0 where
  pub wide : n ≤ length a.wide.now
  pub values : n ≤ length a.values.now
  pub folds : n ≤ length a.folds.now

-- arrays begin with a residual, and with its folded numbers
pub record HasResidual (rs values : List ℤ) (folds : List ℕ) : Type 0 where
  pub begins : take (length rs) values ≡ rs
  pub unsigned : take (length rs) folds ≡ map folded rs
  pub range : All IsResidual rs
