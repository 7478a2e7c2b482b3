-- The samples of a content.
use Rattle.std.proofs.Common.{◌≡◌, ◌∙◌, ◌↔◌, ℕ, zero, suc, ◌≤◌, sym, ap, subst, arith, ℤ, List, ◌++◌, length, replicate, pos}
use Rattle.std.proofs.lemmas.List.{length-append, length-replicate, get_or-replicate, ext_get_or}
use Rattle.flac_subframe.specs.format.Numbers.{sample_at}
use Rattle.flac_subframe.specs.format.Prediction.{fixed_coefficients, restored, Restored}
use Rattle.flac_subframe.specs.format.Residual.{residual_values}
use Rattle.flac_subframe.specs.format.Subframe.{Constant, Verbatim, Fixed, Linear}
use Rattle.flac_subframe.specs.format.Laws.{SamplesAreRestored}
use Rattle.flac_subframe.proofs.lemmas.format.Unique.{restored_is, only_one}

fixed_few : (n : ℕ) → length (fixed_coefficients n) ≤ n
fixed_few zero = omega arith
fixed_few (suc zero) = omega arith
fixed_few (suc (suc zero)) = omega arith
fixed_few (suc (suc (suc zero))) = omega arith
fixed_few (suc (suc (suc (suc n)))) = omega arith

just : (cs : List ℤ) (shift : ℕ) (warm_up rest s : List ℤ) → length cs ≤ length warm_up → Restored cs shift (warm_up ++ rest) s ↔ (s ≡ restored cs shift (warm_up ++ rest))
just cs shift warm_up rest s few =
    let r : List ℤ = warm_up ++ rest in
    let enough : length cs ≤ length r = omega (arith, length-append warm_up rest) in
    let is = restored_is cs shift r enough in
    (λ p. only_one cs shift r s (restored cs shift r) p is, λ e. subst (λ (t : List ℤ). Restored cs shift r t) (sym e) is)

pub samples_restored : SamplesAreRestored
samples_restored block (Constant v) s h = (
  λ p. ext_get_or (pos 0) s (replicate block v) (p.0 ∙ sym (length-replicate block v)) (λ k lt. p.1 k (omega (arith, p.0)) ∙ sym (get_or-replicate block k v (pos 0) (omega (arith, p.0)))),
  λ e. (ap (λ (t : List ℤ). length t) e ∙ length-replicate block v, λ k lt. ap (λ (t : List ℤ). sample_at t k) e ∙ get_or-replicate block k v (pos 0) lt),
)
samples_restored block (Verbatim samples) s h = (λ p. p, λ e. e)
samples_restored block (Fixed warm_up rest) s h = just (fixed_coefficients (length warm_up)) 0 warm_up (residual_values rest) s (fixed_few (length warm_up))
samples_restored block (Linear warm_up chosen rest) s h = just chosen.coefficients chosen.shift warm_up (residual_values rest) s (omega (arith, h))
