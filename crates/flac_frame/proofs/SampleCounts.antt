-- How many samples a subframe has.
use Rattle.std.proofs.Common.{◌≡◌, ◌∙◌, refl, sym, ap, ℕ, ◌-◌, arith, ℤ, List, ◌++◌, Bool, true, false, cond, Some, None, length, length-append, map}
use Rattle.std.proofs.lemmas.List.{length-map, length-replicate}
use Rattle.flac_subframe.specs.declared.format.limits.Limits.{Limits}
use Rattle.flac_subframe.specs.format.Prediction.{fixed_coefficients, Restored}
use Rattle.flac_subframe.specs.format.Residual.{residual_values}
use Rattle.flac_subframe.specs.format.Spelling.{MayHold, IsSubframe}
use Rattle.flac_subframe.specs.format.Subframe.{Content, Constant, Verbatim, Fixed, Linear, Form, restored_samples, samples_of, scaled, fitting}
use Rattle.flac_subframe.specs.format.Wasted.{times_power}
use Rattle.flac_subframe.proofs.lemmas.search.Complete.{whole}
use Rattle.flac_subframe.proofs.lemmas.format.Whole.{samples_restored}

scaled_is : (k : ℕ) (b : Bool) (t s : List ℤ) → scaled k (cond b (Some t) None) ≡ Some s → s ≡ map (times_power k) t
scaled_is k true t s e = sym (of_some e)
  where
    of_some : {xs ys : List ℤ} → Some xs ≡ Some ys → xs ≡ ys
    of_some z = cc
scaled_is k false t s e = absurd (no e)
  where
    no : {xs : List ℤ} → None ≡ Some xs → ⊥
    no z = cc

body_long : (depth block : ℕ) (limits : Limits) (c : Content) → MayHold depth block limits c → length (restored_samples block c) ≡ block
body_long depth block limits (Constant v) may = length-replicate block v
body_long depth block limits (Verbatim vs) may = may.many
body_long depth block limits (Fixed ws rest) may =
    let restored' : Restored (fixed_coefficients (length ws)) 0 (ws ++ residual_values rest) (restored_samples block (Fixed ws rest)) = (samples_restored block (Fixed ws rest) (restored_samples block (Fixed ws rest)) tt).1 refl in
    omega (arith, restored'.long, length-append ws (residual_values rest), whole limits.partition limits.partition (length ws) block rest (omega arith) may.3)
body_long depth block limits (Linear ws chosen rest) may =
    let c : Content = Linear ws chosen rest in
    let predict = may.4 in
    let restored' : Restored chosen.coefficients chosen.shift (ws ++ residual_values rest) (restored_samples block c) = (samples_restored block c (restored_samples block c) (sym predict.many)).1 refl in
    omega (arith, restored'.long, length-append ws (residual_values rest), whole limits.partition limits.partition (length ws) block rest (omega arith) may.5)

-- the samples of a form are as many as the block has
pub samples_long : (depth block : ℕ) (limits : Limits) (f : Form) (s : List ℤ) → IsSubframe depth block limits f → samples_of depth block f ≡ Some s → length s ≡ block
unfolding fitting
samples_long depth block limits f s valid samples =
    ap (λ (l : List ℤ). length l) (scaled_is f.wasted _ (restored_samples block f.content) s samples) ∙ length-map (restored_samples block f.content) (times_power f.wasted) ∙ body_long (depth - f.wasted) block limits f.content valid.content
