-- The least cost over methods and partition orders.
use Rattle.std.proofs.Common.{◌≡◌, ◌⊎◌, refl, inl, inr, ℕ, ◌+◌, ◌-◌, ◌*◌, ◌/◌, ◌^◌, ◌≤◌, ◌<◌, arith, ℤ, List, length}
use Rattle.std.proofs.lemmas.Bool.{cases_lt}
use Rattle.flac_subframe.specs.declared.format.coding.Coding.{Coding}
use Rattle.flac_subframe.specs.format.Least.{IsLeast}
use Rattle.flac_subframe.specs.format.Cost.{MayWrite, MayCodeEach}
use Rattle.flac_subframe.specs.format.inner.Cost.{HalvedTo, ByMethod}
use Rattle.flac_subframe.specs.format.inner.Cost.{partitions_cost, residual_cost, Partitioned}
use Rattle.std.proofs.Math.Nat.{pow-le-pow_right}
use Rattle.flac_subframe.specs.search.inner.Entry.{no_entry}
use Rattle.flac_subframe.specs.search.inner.Halves.{Halves, LeastBelow}
use Rattle.flac_subframe.specs.search.inner.Least.{IsLeastCost}
use Rattle.flac_subframe.specs.format.Cost.{Codings}

module _ (w p most order : ℕ) (rs : List ℤ) (method : (w ≡ 4) ⊎ (w ≡ 5)) (within : p ≤ most) (halves : Halves order rs p) where
  pub halved_least : (cs : List Coding) → (let size : ℕ = (length rs + order) / 2 ^ p in IsLeast (Partitioned w (size - order) size (2 ^ p) rs) (partitions_cost w (size - order) size rs) cs) →
      IsLeast (HalvedTo w p most order rs) (residual_cost order rs) (record { parameter_bits = w; partition_order = p; codings = cs })
  halved_least cs so = record {
    member = (refl, refl, record { method = method; few = within; even = halves.even; room = halves.room; each = so.member.0; codings = so.member.1 });
    least = below;
  }
    where
      below : (f : Codings) → HalvedTo w p most order rs f → residual_cost order rs (record { parameter_bits = w; partition_order = p; codings = cs }) ≤ residual_cost order rs f
      below f m =
          let may : MayCodeEach w ((length rs + order) / 2 ^ p - order) ((length rs + order) / 2 ^ p) rs f.codings = rw (m.0, m.1) at m.2.codings in
          let each : length f.codings ≡ 2 ^ p = rw m.1 at m.2.each in
          rw (m.0, m.1) (omega (arith, so.least f.codings (each, may)))

  pub halved_cost : (n : ℕ) → (let size : ℕ = (length rs + order) / 2 ^ p in IsLeastCost (Partitioned w (size - order) size (2 ^ p) rs) (partitions_cost w (size - order) size rs) n) →
      IsLeastCost (HalvedTo w p most order rs) (residual_cost order rs) (6 + n)
  halved_cost n so = record {
    one = record { parameter_bits = w; partition_order = p; codings = so.one };
    least = halved_least so.one so.least;
    is = rw so.is refl;
  }

-- the forms of a method with a partition order below i
abbrev pub BelowOrder : ℕ → ℕ → ℕ → List ℤ → ℕ → Codings → Type 0
BelowOrder w most order rs i f = ByMethod w most order rs f × (f.partition_order < i)

module _ (w most order : ℕ) (rs : List ℤ) (n m i : ℕ) where
  pub first_order : IsLeastCost (HalvedTo w 0 most order rs) (residual_cost order rs) n → IsLeastCost (BelowOrder w most order rs 1) (residual_cost order rs) n
  first_order so = record {
    one = so.one;
    least = record { member = ((so.least.member.0, so.least.member.2), omega (arith, so.least.member.1)); least = λ f h. so.least.least f (h.0.0, omega (arith, h.1), h.0.1) };
    is = so.is;
  }

  pub order_kept : IsLeastCost (BelowOrder w most order rs i) (residual_cost order rs) n → IsLeastCost (HalvedTo w i most order rs) (residual_cost order rs) m → n ≤ m → IsLeastCost (BelowOrder w most order rs (i + 1)) (residual_cost order rs) n
  order_kept so more le = record {
    one = so.one;
    least = record {
      member = (so.least.member.0, omega (arith, so.least.member.1));
      least = λ f h. elim (cases_lt f.partition_order i) [
        | inl b ↦ so.least.least f (h.0, b)
        | inr b ↦ omega (arith, more.least.least f (h.0.0, omega (arith, h.1), h.0.1), so.is, more.is)
      ];
    };
    is = so.is;
  }

  pub order_taken : IsLeastCost (BelowOrder w most order rs i) (residual_cost order rs) n → IsLeastCost (HalvedTo w i most order rs) (residual_cost order rs) m → m < n → IsLeastCost (BelowOrder w most order rs (i + 1)) (residual_cost order rs) m
  order_taken so more le = record {
    one = more.one;
    least = record {
      member = ((more.least.member.0, more.least.member.2), omega (arith, more.least.member.1));
      least = λ f h. elim (cases_lt f.partition_order i) [
        | inl b ↦ omega (arith, so.least.least f (h.0, b), so.is, more.is)
        | inr b ↦ more.least.least f (h.0.0, omega (arith, h.1), h.0.1)
      ];
    };
    is = more.is;
  }

  pub all_orders : most + 1 ≤ i → IsLeastCost (BelowOrder w most order rs i) (residual_cost order rs) n → IsLeastCost (ByMethod w most order rs) (residual_cost order rs) n
  all_orders over so = record {
    one = so.one;
    least = record { member = so.least.member.0; least = λ f h. so.least.least f (h, omega (arith, h.1.few)) };
    is = so.is;
  }

-- an entry before any parameter is compared
pub least_none : (rs : List ℤ) (e : ℕ) → e ≡ no_entry → LeastBelow 0 rs e
least_none rs e is = record { none = λ _. is; some = λ h. absurd (omega arith); least = λ n h. absurd (omega arith) }

-- the place of an entry
pub place_within : (p j high : ℕ) → p ≤ high → j < 2 ^ p → 2 ^ p + j < 2 * 2 ^ high
place_within p j high le b = omega (arith, pow-le-pow_right {n = 2} (omega arith) {i = p} {j = high} le)

-- two leasts cost the same
pub same_cost : {A : Type 0} (M : A → Type 0) (cost : A → ℕ) (a : A) (n : ℕ) → IsLeast M cost a → IsLeastCost M cost n → n ≡ cost a
same_cost M cost a n p q = omega (arith, p.least q.one q.least.member, q.least.least a p.member, q.is)

module _ (most order : ℕ) (rs : List ℤ) (h : ℕ) (within : h ≤ most) (greatest : (p : ℕ) → p ≤ most → Halves order rs p → p ≤ h) where
  pub narrower : (f : Codings) → MayWrite most order rs f → MayWrite h order rs f
  narrower f m = record { method = m.method; few = greatest f.partition_order m.few (record { even = m.even; room = m.room }); even = m.even; room = m.room; each = m.each; codings = m.codings }

  wider : (f : Codings) → MayWrite h order rs f → MayWrite most order rs f
  wider f m = record { method = m.method; few = omega (arith, m.few); even = m.even; room = m.room; each = m.each; codings = m.codings }

  pub found_least : (w p n : ℕ) (f : Codings) → IsLeastCost (MayWrite h order rs) (residual_cost order rs) n → IsLeastCost (HalvedTo w p h order rs) (residual_cost order rs) n →
      IsLeast (HalvedTo w p h order rs) (residual_cost order rs) f → IsLeast (MayWrite most order rs) (residual_cost order rs) f
  found_least w p n f all here so = record {
    member = wider f so.member.2;
    least = λ g m. omega (arith, all.least.least g (narrower g m), all.is, same_cost (HalvedTo w p h order rs) (residual_cost order rs) f n so here);
  }

  pub none_less : (n below : ℕ) → IsLeastCost (MayWrite h order rs) (residual_cost order rs) n → below ≤ n → (f : Codings) → MayWrite most order rs f → below ≤ residual_cost order rs f
  none_less n below all le f m = omega (arith, all.least.least f (narrower f m), all.is)

-- The block can be halved h times and not more, so a form of any partition order up to the greatest is one of those up
-- to h.
module _ (order h most : ℕ) (rs : List ℤ) (within : h ≤ most) (greatest : (p : ℕ) → p ≤ most → Halves order rs p → p ≤ h) where
  coarser_form : (f : Codings) → MayWrite most order rs f → MayWrite h order rs f
  coarser_form f m = record { method = m.method; few = greatest f.partition_order m.few (record { even = m.even; room = m.room }); even = m.even; room = m.room; each = m.each; codings = m.codings }

  pub least_of_all : (f : Codings) → IsLeast (MayWrite h order rs) (residual_cost order rs) f → IsLeast (MayWrite most order rs) (residual_cost order rs) f
  least_of_all f so = let m = so.member in record {
    member = record { method = m.method; few = omega (arith, m.few, within); even = m.even; room = m.room; each = m.each; codings = m.codings };
    least = λ g may. so.least g (coarser_form g may);
  }

  pub none_of_all : (below : ℕ) → ((f : Codings) → MayWrite h order rs f → below ≤ residual_cost order rs f) → (f : Codings) → MayWrite most order rs f → below ≤ residual_cost order rs f
  none_of_all below none f may = none f (coarser_form f may)
