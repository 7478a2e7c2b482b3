-- The best form of the partition orders that were searched.
use Rattle.std.proofs.Common.{◌≡◌, ℕ, ◌≤◌, arith}
use Rattle.flac_subframe.specs.format.Least.{IsLeast}
use Rattle.flac_subframe.specs.search.inner.Least.{IsLeastCost}

module _ {A : Type 0} (Part All : A → Type 0) (cost : A → ℕ) (n : ℕ) where
  -- the best of a part of a family is the best of all, if it costs as much as that
  pub least_found : (a : A) → ((x : A) → Part x → All x) → IsLeastCost All cost n → IsLeastCost Part cost n → IsLeast Part cost a → IsLeast All cost a
  least_found a into all here found = record {
    member = into a found.member;
    least = λ b m. omega (arith, found.least here.one here.least.member, here.is, all.is, all.least.least b m);
  }

module _ {A : Type 0} (Member : A → Type 0) (cost : A → ℕ) (n : ℕ) where
  pub found_bits : (a : A) (bits : ℕ) → IsLeastCost Member cost n → IsLeast Member cost a → bits ≡ cost a → bits ≤ n
  found_bits a bits here found is = omega (arith, found.least here.one here.least.member, here.is, is)

  pub none_below : (below : ℕ) → IsLeastCost Member cost n → below ≤ n → (b : A) → Member b → below ≤ cost b
  none_below below all over b m = omega (arith, all.is, all.least.least b m, over)
