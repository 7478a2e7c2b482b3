-- The forms up to a partition order, and those of the finer ones.
use Rattle.std.proofs.Common.{◌≡◌, inl, inr, ℕ, ◌≤◌, ◌<◌, arith, ℤ, List, Option, Some, None, IfSome, IfNone}
use Rattle.std.proofs.lemmas.Bool.{cases_lt}
use Rattle.flac_subframe.specs.declared.format.residual_form.ResidualForm.{ResidualForm}
use Rattle.flac_subframe.specs.format.Least.{IsLeast}
use Rattle.flac_subframe.specs.format.Cost.{Codings, MayWrite, codings_in}
use Rattle.flac_subframe.specs.format.inner.Cost.{residual_cost}

module _ (order low high : ℕ) (rs : List ℤ) where
  pub up_to : (f : Codings) → MayWrite high order rs f → f.partition_order ≤ low → MayWrite low order rs f
  up_to f m few = record { method = m.method; few = few; even = m.even; room = m.room; each = m.each; codings = m.codings }

  module _ (within : low ≤ high) (below : ℕ) (finer : (f : Codings) → MayWrite high order rs f → low < f.partition_order → below ≤ residual_cost order rs f) where
    -- what is the least up to a partition order is the least of all, where each finer form costs as much
    pub least_still : (f : Codings) → IsLeast (MayWrite low order rs) (residual_cost order rs) f → residual_cost order rs f ≤ below → IsLeast (MayWrite high order rs) (residual_cost order rs) f
    least_still f so small = let m = so.member in record {
      member = record { method = m.method; few = omega (arith, m.few, within); even = m.even; room = m.room; each = m.each; codings = m.codings };
      least = λ g may. elim (cases_lt low g.partition_order) [
        | inl b ↦ omega (arith, small, finer g may b)
        | inr b ↦ so.least g (up_to g may b)
      ];
    }

    pub none_still : ((f : Codings) → MayWrite low order rs f → below ≤ residual_cost order rs f) → (f : Codings) → MayWrite high order rs f → below ≤ residual_cost order rs f
    none_still none f may = elim (cases_lt low f.partition_order) [
      | inl b ↦ finer f may b
      | inr b ↦ none f (up_to f may b)
    ]

    -- the same of what was found
    pub found_still : (found : Option ResidualForm) (bytes : List ℕ) → IfSome found (λ f. IsLeast (MayWrite low order rs) (residual_cost order rs) (codings_in f bytes)) → IfSome found (λ f. f.bits ≡ residual_cost order rs (codings_in f bytes)) → IfSome found (λ f. f.bits ≤ below)
        → IfSome found (λ f. IsLeast (MayWrite high order rs) (residual_cost order rs) (codings_in f bytes))
    found_still (Some f) bytes least is small = least_still (codings_in f bytes) least (omega (arith, is, small))
    found_still None bytes least is small = tt

    -- what no form up to a partition order undercuts, none at all does
    pub none_finer : (found : Option ResidualForm) → IfNone found ((f : Codings) → MayWrite low order rs f → below ≤ residual_cost order rs f) → IfNone found ((f : Codings) → MayWrite high order rs f → 8 < f.partition_order → below ≤ residual_cost order rs f)
    none_finer (Some f) none = tt
    none_finer None none = λ f may b. none_still none f may

    pub none_after : (found : Option ResidualForm) (least : ℕ) → IfNone found (below ≡ least) → IfNone found ((f : Codings) → MayWrite low order rs f → least ≤ residual_cost order rs f) → IfNone found ((f : Codings) → MayWrite high order rs f → least ≤ residual_cost order rs f)
    none_after (Some f) least is none = tt
    none_after None least is none = λ f may. omega (arith, is, none_still (λ g m. omega (arith, is, none g m)) f may)
