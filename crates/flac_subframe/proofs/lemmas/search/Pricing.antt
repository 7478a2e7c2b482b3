-- The codings of least cost, one partition after another.
use Rattle.std.proofs.Common.{◌≡◌, ◌⊎◌, ◌∙◌, inl, inr, refl, sym, ap, ℕ, suc, ◌+◌, ◌-◌, ◌*◌, ◌/◌, ◌^◌, ◌≤◌, ◌<◌, arith, List, [], ◌∷◌, ◌++◌, length, take, drop, ℤ, All, append_assoc, length-append, min}
use Rattle.std.proofs.lemmas.Nat.{pow_pos}
use Rattle.std.proofs.Math.Nat.{suc-mul}
use Rattle.std.proofs.lemmas.List.{length-drop, length-take, append-nil}
use Rattle.std.proofs.lemmas.List.Elements.{All-drop}
use Rattle.flac_subframe.specs.declared.format.coding.Coding.{Coding}
use Rattle.flac_subframe.specs.format.Least.{IsLeast}
use Rattle.flac_bits.specs.Rice.{IsResidual}
use Rattle.flac_subframe.specs.format.Cost.{MayCode}
use Rattle.flac_subframe.specs.search.inner.Halves.{Halves}
use Rattle.flac_subframe.specs.format.inner.Cost.{coding_cost, partitions_cost, Partitioned}

-- a least coding for the first partition and least codings for the rest
pub first_and_rest : (w long size m : ℕ) (rs : List ℤ) (c : Coding) (tail : List Coding) →
    IsLeast (MayCode w (take long rs)) (λ x. coding_cost x (take long rs)) c →
    IsLeast (Partitioned w size size m (drop long rs)) (partitions_cost w size size (drop long rs)) tail →
    IsLeast (Partitioned w long size (suc m) rs) (partitions_cost w long size rs) (c ∷ tail)
unfolding partitions_cost
first_and_rest w long size m rs c tail p q = record {
  member = (ap suc q.member.0, (p.member, q.member.1));
  least = below;
}
  where
    below : (cs : List Coding) → Partitioned w long size (suc m) rs cs → partitions_cost w long size rs (c ∷ tail) ≤ partitions_cost w long size rs cs
    below [] h = absurd (omega (arith, h.0))
    below (x ∷ xs) h = omega (arith, p.least x h.1.0, q.least xs (omega (arith, h.0), h.1.1))

-- what stands when some partitions are priced, and the last ones are left
pub record PricedTo (w first size count : ℕ) (rs : List ℤ) (done : List Coding) (bits long left : ℕ) (rest : List ℤ) : Type 0 where
  pub counted : length done + left ≡ count
  pub cut : 0 < left → length rest + size ≡ long + left * size
  pub range : All IsResidual rest
  pub small : bits + 2 ^ 33 * length rest ≤ 2 ^ 33 * length rs + 10 * length done
  pub least : (tail : List Coding) → IsLeast (Partitioned w long size left rest) (partitions_cost w long size rest) tail → IsLeast (Partitioned w first size count rs) (partitions_cost w first size rs) (done ++ tail)
  pub cost : (tail : List Coding) → partitions_cost w first size rs (done ++ tail) ≡ bits + partitions_cost w long size rest tail

spent : (bits long_rest all long w b m size k k' : ℕ) → (w ≡ 4) ⊎ (w ≡ 5) → long_rest ≡ long + m * size → bits + 2 ^ 33 * long_rest ≤ 2 ^ 33 * all + 10 * k → b ≤ 2 ^ 33 * min long long_rest + 5 → k' ≡ k + 1 →
    bits + (w + b) + 2 ^ 33 * (long_rest - long) ≤ 2 ^ 33 * all + 10 * k'
spent bits long_rest all long w b m size k k' (inl e) cut was small e' = omega arith
spent bits long_rest all long w b m size k k' (inr e) cut was small e' = omega arith

pub priced_more : (w first size count : ℕ) (rs : List ℤ) (done : List Coding) (bits long m : ℕ) (rest : List ℤ) (c : Coding) (b : ℕ) → (w ≡ 4) ⊎ (w ≡ 5) →
    PricedTo w first size count rs done bits long (suc m) rest →
    IsLeast (MayCode w (take long rest)) (λ x. coding_cost x (take long rest)) c → b ≡ coding_cost c (take long rest) → b ≤ 2 ^ 33 * length (take long rest) + 5 →
    PricedTo w first size count rs (done ++ c ∷ []) (bits + (w + b)) size m (drop long rest)
unfolding partitions_cost
priced_more w first size count rs done bits long m rest c b method so p is small =
    let here : length rest ≡ long + m * size = omega (arith, so.cut (omega arith), suc-mul m size) in
    record {
      counted = omega (arith, so.counted, length-append done (c ∷ []));
      cut = λ some. omega (arith, length-drop long rest);
      range = All-drop IsResidual long rest so.range;
      small = rw (length-drop long rest) (spent bits (length rest) (length rs) long w b m size (length done) (length (done ++ c ∷ [])) method here so.small (rw (length-take long rest) at small) (omega (arith, length-append done (c ∷ []))));
      least = λ tail q. rw append_assoc (so.least (c ∷ tail) (first_and_rest w long size m rest c tail p q));
      cost = λ tail. rw append_assoc (so.cost (c ∷ tail) ∙ rw is (omega arith));
    }

-- nothing is left
pub priced_none : (w long size : ℕ) (rest : List ℤ) → IsLeast (Partitioned w long size 0 rest) (partitions_cost w long size rest) []
unfolding partitions_cost
priced_none w long size rest = record { member = (refl, tt); least = λ cs h. omega arith }

-- before the first partition
pub priced_start : (w order p count left : ℕ) (rs : List ℤ) → Halves order rs p → All IsResidual rs → count ≡ 2 ^ p → left ≡ count →
    (let size : ℕ = (length rs + order) / 2 ^ p in PricedTo w (size - order) size count rs [] 0 (size - order) left rs)
priced_start w order p count left rs halves range is same =
    let whole : length rs + order ≡ 2 ^ p * ((length rs + order) / 2 ^ p) = omega (arith, halves.even, pow_pos p) in
    record {
      counted = omega arith;
      cut = λ some. rw (same, is) (omega (arith, whole, halves.room));
      range = range;
      small = omega arith;
      least = λ tail q. rw same at q;
      cost = λ tail. omega arith;
    }

module _ (w first size count : ℕ) (rs : List ℤ) (done : List Coding) (bits long left : ℕ) (rest : List ℤ) (none : left ≡ 0) (so : PricedTo w first size count rs done bits long left rest) where
  pub priced_least : IsLeast (Partitioned w first size count rs) (partitions_cost w first size rs) done
  priced_least = rw append-nil at (so.least [] (rw none (priced_none w long size rest)))

  pub priced_bits : bits ≡ partitions_cost w first size rs done
  unfolding partitions_cost
  priced_bits = sym (rw append-nil at (so.cost []) ∙ omega arith)
