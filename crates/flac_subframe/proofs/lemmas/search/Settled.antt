-- Where no partition gains by a parameter that the second method alone has, the second method costs more.
use Rattle.std.proofs.Common.{◌≡◌, ◌∙◌, inl, inr, refl, ap, ℕ, suc, ◌+◌, ◌-◌, ◌/◌, ◌^◌, ◌≤◌, ◌<◌, arith, ℤ, List, [], ◌∷◌, length, take, drop}
use Rattle.std.proofs.lemmas.List.{drop-drop}
use Rattle.flac_subframe.specs.declared.format.coding.Coding.{Coding}
use Rattle.flac_subframe.specs.declared.format.coding.Coding.TheVariants.{Rice, Escape}
use Rattle.flac_subframe.specs.format.Cost.{Codings, MayCode, MayCodeEach, MayWrite}
use Rattle.flac_subframe.specs.format.inner.Cost.{ByMethod, coding_cost, partitions_cost, residual_cost}
use Rattle.flac_subframe.specs.search.inner.Least.{IsLeastCost}
use Rattle.flac_subframe.specs.search.inner.Halves.{part, start, LeastBelow}
use Rattle.flac_subframe.proofs.lemmas.search.Splits.{start_next, start_rises}

-- a coding of the first method that costs no more
one_lower : (xs : List ℤ) (e : ℕ) → LeastBelow 15 xs e → LeastBelow 31 xs e → (c : Coding) → MayCode 5 xs c → (d : Coding) × MayCode 4 xs d × (coding_cost d xs ≤ coding_cost c xs)
one_lower xs e few more (Rice k) may =
    let was = few.some (omega arith) in
    (Rice was.0, omega (arith, was.1), omega (arith, was.2, may, more.least k (omega (arith, may))))
one_lower xs e few more (Escape m) may = (Escape m, may, omega arith)

module _ (order p : ℕ) (rs : List ℤ) (room : order < (length rs + order) / 2 ^ p)
    (each : (j : ℕ) → j < 2 ^ p → (e : ℕ) × LeastBelow 15 (part order rs p j) e × LeastBelow 31 (part order rs p j) e) where
  each_lower : (j first : ℕ) (rest : List ℤ) (cs : List Coding) → j + length cs ≡ 2 ^ p → rest ≡ drop (start order (length rs + order) p j) rs → first ≡ start order (length rs + order) p (j + 1) - start order (length rs + order) p j →
      MayCodeEach 5 first ((length rs + order) / 2 ^ p) rest cs →
      (ds : List Coding) × (length ds ≡ length cs) × MayCodeEach 4 first ((length rs + order) / 2 ^ p) rest ds × (partitions_cost 4 first ((length rs + order) / 2 ^ p) rest ds ≤ partitions_cost 5 first ((length rs + order) / 2 ^ p) rest cs)
  unfolding partitions_cost part
  each_lower j first rest [] long is at_ may = ([], refl, tt, omega arith)
  each_lower j first rest (c ∷ cs) long is at_ may =
      let n : ℕ = length rs + order in
      let size : ℕ = n / 2 ^ p in
      let b : j < 2 ^ p = omega (arith, long) in
      let this : part order rs p j ≡ take first rest = rw (is, at_) refl in
      let so = each j b in
      let one = one_lower (take first rest) so.0 (rw this at so.1) (rw this at so.2) c may.0 in
      let next : start order n p j + first ≡ start order n p (j + 1) = omega (arith, at_, start_rises order n p j) in
      let tail = each_lower (j + 1) size (drop first rest) cs (omega (arith, long)) (rw is (drop-drop first (start order n p j) rs) ∙ ap (λ (k : ℕ). drop k rs) next) (omega (arith, start_next order n p j room, start_rises order n p (j + 1))) may.1 in
      (one.0 ∷ tail.0, ap suc tail.1, (one.1, tail.2), omega (arith, one.2, tail.3))

module _ (order h : ℕ) (rs : List ℤ) (each : (p j : ℕ) → p ≤ h → j < 2 ^ p → (e : ℕ) × LeastBelow 15 (part order rs p j) e × LeastBelow 31 (part order rs p j) e) where
  lower : (f : Codings) → f.parameter_bits ≡ 5 → MayWrite h order rs f → (g : Codings) × ByMethod 4 h order rs g × (residual_cost order rs g ≤ residual_cost order rs f)
  lower f e m =
      let n : ℕ = length rs + order in
      let p : ℕ = f.partition_order in
      let size : ℕ = n / 2 ^ p in
      let zero' : start order n p 0 ≡ 0 = omega arith in
      let may : MayCodeEach 5 (size - order) size rs f.codings = rw e at m.codings in
      let so = each_lower order p rs m.room (λ j b. each p j m.few b) 0 (size - order) rs f.codings (omega (arith, m.each)) (rw zero' refl) (omega arith) may in (
        record { parameter_bits = 4; partition_order = p; codings = so.0 },
        (refl, record { method = inl refl; few = m.few; even = m.even; room = m.room; each = so.1 ∙ m.each; codings = so.2 }),
        rw e (omega (arith, so.3)),
      )

  pub first_alone : (n : ℕ) → IsLeastCost (ByMethod 4 h order rs) (residual_cost order rs) n → IsLeastCost (MayWrite h order rs) (residual_cost order rs) n
  first_alone n so = record {
    one = so.one;
    least = record {
      member = so.least.member.1;
      least = λ f m. elim m.method [
        | inl e ↦ so.least.least f (e, m)
        | inr e ↦ let g = lower f e m in omega (arith, so.least.least g.0 g.1, g.2)
      ];
    };
    is = so.is;
  }

-- the least of the two methods
pub first_least : (order h : ℕ) (rs : List ℤ) (a b : ℕ) → IsLeastCost (ByMethod 4 h order rs) (residual_cost order rs) a → IsLeastCost (ByMethod 5 h order rs) (residual_cost order rs) b → a ≤ b
    → IsLeastCost (MayWrite h order rs) (residual_cost order rs) a
first_least order h rs a b p q le = record {
  one = p.one;
  least = record {
    member = p.least.member.1;
    least = λ f m. elim m.method [
      | inl e ↦ p.least.least f (e, m)
      | inr e ↦ omega (arith, p.is, q.is, q.least.least f (e, m), le)
    ];
  };
  is = p.is;
}

pub second_least : (order h : ℕ) (rs : List ℤ) (a b : ℕ) → IsLeastCost (ByMethod 4 h order rs) (residual_cost order rs) a → IsLeastCost (ByMethod 5 h order rs) (residual_cost order rs) b → b ≤ a
    → IsLeastCost (MayWrite h order rs) (residual_cost order rs) b
second_least order h rs a b p q le = record {
  one = q.one;
  least = record {
    member = q.least.member.1;
    least = λ f m. elim m.method [
      | inl e ↦ omega (arith, p.is, q.is, p.least.least f (e, m), le)
      | inr e ↦ q.least.least f (e, m)
    ];
  };
  is = q.is;
}
