-- What an entry of the table says of a partition.
use Rattle.std.proofs.Common.{◌≡◌, ◌⊎◌, inl, inr, ℕ, ◌+◌, ◌-◌, ◌*◌, ◌^◌, ◌≤◌, ◌<◌, arith, ℤ, List, length, All}
use Rattle.std.specs.List.{sum_by}
use Rattle.std.proofs.lemmas.List.Sums.{sum_by-le}
use Rattle.std.proofs.lemmas.List.Elements.{All-weaker}
use Rattle.flac_subframe.specs.declared.format.coding.Coding.TheVariants.{Rice}
use Rattle.flac_subframe.specs.format.Cost.{MayCode}
use Rattle.flac_subframe.specs.format.inner.Cost.{value_cost, coding_cost}
use Rattle.flac_subframe.specs.search.inner.Entry.{parameter_in, bits_in}
use Rattle.flac_subframe.specs.search.inner.Halves.{LeastBelow}
use Rattle.flac_subframe.proofs.lemmas.search.Splits.{value_small}
use Rattle.flac_bits.specs.Rice.{IsResidual}

module _ (w : ℕ) (rs : List ℤ) (e : ℕ) (method : (w ≡ 4) ⊎ (w ≡ 5)) (so : LeastBelow (2 ^ w - 1) rs e) where
  some : 0 < 2 ^ w - 1
  some = elim method [ inl h ↦ rw h (omega arith) | inr h ↦ rw h (omega arith) ]

  few : 2 ^ w - 1 ≤ 31
  few = elim method [ inl h ↦ rw h (omega arith) | inr h ↦ rw h (omega arith) ]

  parameter : parameter_in e ≡ (so.some some).0
  parameter = let was = so.some some in omega (arith, was.1, was.2, few)

  bits : bits_in e ≡ sum_by (value_cost (so.some some).0) rs
  bits = let was = so.some some in omega (arith, was.1, was.2, few)

  pub entry_member : MayCode w rs (Rice (parameter_in e))
  entry_member = let was = so.some some in rw parameter (omega (arith, was.1))

  pub entry_bits : bits_in e ≡ coding_cost (Rice (parameter_in e)) rs
  entry_bits = rw parameter bits

  pub entry_least : (k : ℕ) → k + 1 < 2 ^ w → coding_cost (Rice (parameter_in e)) rs ≤ coding_cost (Rice k) rs
  entry_least k h = rw (← entry_bits) (omega (arith, h, few, so.least k (omega arith)))

  pub entry_small : All IsResidual rs → bits_in e ≤ 2 ^ 33 * length rs
  entry_small all =
      let was = so.some some in
      let k : ℕ = was.0 in
      let each : All (λ x. value_cost k x ≤ 2 ^ 33) rs = All-weaker IsResidual (λ x. value_cost k x ≤ 2 ^ 33) (λ x r. value_small k x (omega (arith, was.1, few)) r) rs all in
      omega (arith, sum_by-le (value_cost k) (2 ^ 33) rs each, bits)
