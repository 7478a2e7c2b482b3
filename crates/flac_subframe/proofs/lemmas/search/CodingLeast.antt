-- The least coding of one partition.
use Rattle.std.proofs.Common.{◌≡◌, ◌⊎◌, ◌↔◌, inl, inr, ℕ, ◌+◌, ◌-◌, ◌*◌, ◌%◌, ◌^◌, ◌≤◌, ◌<◌, arith, List, length, ℤ, All}
use Rattle.flac_subframe.specs.declared.format.coding.Coding.{Coding}
use Rattle.flac_subframe.specs.declared.format.coding.Coding.TheVariants.{Rice, Escape}
use Rattle.flac_subframe.specs.format.Least.{IsLeast}
use Rattle.flac_subframe.specs.format.Cost.{MayCode}
use Rattle.flac_subframe.specs.format.Spelling.{FitsWidth}
use Rattle.flac_subframe.specs.format.inner.Cost.{coding_cost}
use Rattle.std.proofs.lemmas.Nat.{mul-le}

module _ (w : ℕ) (rs : List ℤ) (best : Coding) (n : ℕ) (member : MayCode w rs best)
    (least : (k : ℕ) → k + 1 < 2 ^ w → coding_cost best rs ≤ coding_cost (Rice k) rs)
    (width : (m : ℕ) → (All (FitsWidth m) rs ↔ (n ≤ m))) where
  wider : (m : ℕ) → All (FitsWidth m) rs → 5 + n * length rs ≤ 5 + m * length rs
  wider m fit = omega (arith, mul-le n (length rs) m (length rs) ((width m).0 fit) (omega arith))

  pub rice_is_least : (32 ≤ n) ⊎ (coding_cost best rs ≤ 5 + n * length rs) → IsLeast (MayCode w rs) (λ c. coding_cost c rs) best
  rice_is_least other = record { member = member; least = below }
    where
      below : (c : Coding) → MayCode w rs c → coding_cost best rs ≤ coding_cost c rs
      below (Rice k) m = least k m
      below (Escape m) may = elim other [ inl h ↦ absurd (omega (arith, (width m).0 may.1, may.0)) | inr h ↦ omega (arith, wider m may.1) ]

  pub escape_is_least : n < 32 → 5 + n * length rs ≤ coding_cost best rs → IsLeast (MayCode w rs) (λ c. coding_cost c rs) (Escape n)
  escape_is_least small h = record { member = (small, (width n).1 (omega arith)); least = below }
    where
      below : (c : Coding) → MayCode w rs c → 5 + n * length rs ≤ coding_cost c rs
      below (Rice k) m = omega (arith, least k m)
      below (Escape m) may = wider m may.1

-- the parameters that a loop to the greatest has passed
pub passed : (w k i : ℕ) → (w ≡ 4) ⊎ (w ≡ 5) → 1 * 2 ^ w % 256 - 1 ≤ i → k + 1 < 2 ^ w → k < i
passed w k i (inl e) h b = let h' : 15 ≤ i = rw e at h in let b' : k + 1 < 16 = rw e at b in omega arith
passed w k i (inr e) h b = let h' : 31 ≤ i = rw e at h in let b' : k + 1 < 32 = rw e at b in omega arith
