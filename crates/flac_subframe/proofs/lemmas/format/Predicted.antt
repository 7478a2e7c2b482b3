-- Samples after a residual that was read.
use Rattle.std.proofs.Common.{◌≡◌, ℕ, ◌+◌, ◌-◌, ◌/◌, ◌^◌, List, ◌++◌, Bool, cond, Option, Some, None, Ok, Err, refl, sym, ap, ◌∙◌, ℤ, length, take, drop, ◌≤◌, arith, zero, suc, IsTrue, All}
use borrow.Rule.Slice.PartMut.{put_mid, mid_of, same_len_mid}
use Rattle.std.proofs.lemmas.List.{take_all, length-append, length-take, length-drop}
use Rattle.std.proofs.Math.Seq.{take-append_seam}
use Rattle.std.proofs.lemmas.Slice.{take-put_mid}
use Rattle.flac_bits.specs.Signed.{FitsBits}
use Rattle.flac_subframe.specs.format.Prediction.{Restored}
use Rattle.flac_subframe.proofs.lemmas.format.Unique.{restored_fits}
use Rattle.flac_bits.specs.State.{Cursor}
use Rattle.flac_bits.specs.Layout.{run, and_then, bind, done, Reason}
use Rattle.flac_bits.specs.Lists.{list_of}
use Rattle.flac_bits.specs.Signed.{signed_field}
use Rattle.flac_subframe.specs.format.Numbers.{all_fit}
use Rattle.flac_subframe.specs.format.Prediction.{fixed_coefficients, restored}
use Rattle.flac_subframe.specs.format.Residual.{Residual, residual_header, residual, residual_values, partitions, all_values}
use Rattle.flac_subframe.specs.format.Subframe.{Fixed, Linear, Predictor, predictor, fixed, linear, fitting}
use Rattle.flac_subframe.proofs.lemmas.format.Steps.{and_then_and_then, read_before, fails_before}

-- after the header of a residual stand its partitions
pub residual_run : (limit order block : ℕ) (h : ℕ × ℕ) (c d : Cursor) → run (residual_header limit order block) c ≡ Ok (h, d)
    → run (bind (residual limit order block) (λ r. done (residual_values r))) c ≡ and_then (run (partitions (4 + h.0) (block / 2 ^ h.1 - order) (block / 2 ^ h.1) (2 ^ h.1)) d) (λ ps e. Ok (all_values ps, e))
unfolding residual
residual_run limit order block h c d is = rw is (and_then_and_then (run (partitions (4 + h.0) (block / 2 ^ h.1 - order) (block / 2 ^ h.1) (2 ^ h.1)) d) _ _)

-- its header was refused
pub residual_fails : (limit order block : ℕ) (c : Cursor) (w : Reason) → run (residual_header limit order block) c ≡ Err w → run (bind (residual limit order block) (λ r. done (residual_values r))) c ≡ Err w
unfolding residual
residual_fails limit order block c w is = rw is refl

module _ (depth block limit order : ℕ) where
  -- what was read of the residual gives the samples
  values_then : (f : Residual → Option (List ℤ)) (rest : List ℤ) (o : Option (List ℤ)) (d e : Cursor) → ((r : Residual) → residual_values r ≡ rest → f r ≡ o)
      → and_then (run (residual limit order block) d) (λ r g. Ok (residual_values r, g)) ≡ Ok (rest, e) → and_then (run (residual limit order block) d) (λ r g. Ok (f r, g)) ≡ Ok (o, e)
  values_then f rest o d e same is =
      let b = read_before (run (residual limit order block) d) residual_values rest e is in
      rw (b.1, same b.0 b.2) refl

  fail_then : (f : Residual → Option (List ℤ)) (w : Reason) (d : Cursor) → and_then (run (residual limit order block) d) (λ r g. Ok (residual_values r, g)) ≡ Err w → and_then (run (residual limit order block) d) (λ r g. Ok (f r, g)) ≡ Err w
  fail_then f w d is = rw (fails_before (run (residual limit order block) d) residual_values w is) refl

  -- the warm-up samples were refused
  pub linear_fails_first : (c : Cursor) (w : Reason) → run (list_of order (signed_field depth)) c ≡ Err w → run (bind (linear depth block limit order) (λ x. done (fitting depth block x))) c ≡ Err w
  unfolding linear
  linear_fails_first c w is = rw is refl

  pub fixed_fails_first : (c : Cursor) (w : Reason) → run (list_of order (signed_field depth)) c ≡ Err w → run (bind (fixed depth block limit order) (λ x. done (fitting depth block x))) c ≡ Err w
  unfolding fixed
  fixed_fails_first c w is = rw is refl

  module _ (c d : Cursor) (warm_up : List ℤ) (warm : run (list_of order (signed_field depth)) c ≡ Ok (warm_up, d)) where
    fixed_run : run (bind (fixed depth block limit order) (λ x. done (fitting depth block x))) c ≡ and_then (run (residual limit order block) d) (λ r g. Ok (fitting depth block (Fixed warm_up r), g))
    unfolding fixed
    fixed_run = rw warm (and_then_and_then (run (residual limit order block) d) _ _)

    pub fixed_fails : (w : Reason) → and_then (run (residual limit order block) d) (λ r g. Ok (residual_values r, g)) ≡ Err w → run (bind (fixed depth block limit order) (λ x. done (fitting depth block x))) c ≡ Err w
    fixed_fails w is = fixed_run ∙ fail_then (λ r. fitting depth block (Fixed warm_up r)) w d is

    pub fixed_read : (e : Cursor) (rest s : List ℤ) (b : Bool) → length warm_up ≡ order → and_then (run (residual limit order block) d) (λ r g. Ok (residual_values r, g)) ≡ Ok (rest, e)
        → cond (all_fit depth (restored (fixed_coefficients order) 0 (warm_up ++ rest))) (Some (restored (fixed_coefficients order) 0 (warm_up ++ rest))) None ≡ cond b (Some s) None
        → run (bind (fixed depth block limit order) (λ x. done (fitting depth block x))) c ≡ Ok (cond b (Some s) None, e)
    unfolding fitting
    fixed_read e rest s b long is same =
        fixed_run ∙ values_then (λ r. fitting depth block (Fixed warm_up r)) rest (cond b (Some s) None) d e (λ r v. rw (long, v) same) is

    -- the predictor was refused
    pub linear_fails_next : (w : Reason) → run (predictor order) d ≡ Err w → run (bind (linear depth block limit order) (λ x. done (fitting depth block x))) c ≡ Err w
    unfolding linear
    linear_fails_next w is = rw (warm, is) refl

    module _ (f : Cursor) (p : Predictor) (chosen : run (predictor order) d ≡ Ok (p, f)) where
      linear_run : run (bind (linear depth block limit order) (λ x. done (fitting depth block x))) c ≡ and_then (run (residual limit order block) f) (λ r g. Ok (fitting depth block (Linear warm_up p r), g))
      unfolding linear
      linear_run = rw (warm, chosen) (and_then_and_then (run (residual limit order block) f) _ _)

      pub linear_fails : (w : Reason) → and_then (run (residual limit order block) f) (λ r g. Ok (residual_values r, g)) ≡ Err w → run (bind (linear depth block limit order) (λ x. done (fitting depth block x))) c ≡ Err w
      linear_fails w is = linear_run ∙ fail_then (λ r. fitting depth block (Linear warm_up p r)) w f is

      pub linear_read : (e : Cursor) (rest s : List ℤ) (b : Bool) → and_then (run (residual limit order block) f) (λ r g. Ok (residual_values r, g)) ≡ Ok (rest, e)
          → cond (all_fit depth (restored p.coefficients p.shift (warm_up ++ rest))) (Some (restored p.coefficients p.shift (warm_up ++ rest))) None ≡ cond b (Some s) None
          → run (bind (linear depth block limit order) (λ x. done (fitting depth block x))) c ≡ Ok (cond b (Some s) None, e)
      unfolding fitting
      linear_read e rest s b is same =
          linear_run ∙ values_then (λ r. fitting depth block (Linear warm_up p r)) rest (cond b (Some s) None) f e (λ r v. rw v same) is

-- the places before restoration: the warm-up samples and the residual
pub places_are : (n : ℕ) (warm_up rest s : List ℤ) → length warm_up ≡ n → n ≤ length s → length rest ≡ length s - n → put_mid n (length (warm_up ++ drop n s) - n) (warm_up ++ drop n s) rest ≡ warm_up ++ rest
places_are n warm_up rest s long within left =
    let xs : List ℤ = warm_up ++ drop n s in
    let size : length xs ≡ length s = omega (arith, length-append warm_up (drop n s), length-drop n s) in
    let mid : length rest ≡ length (mid_of n (length xs - n) xs) = omega (arith, length-take (length xs - n) (drop n xs), length-drop n xs) in
    let whole : List ℤ = put_mid n (length xs - n) xs rest in
    let kept : length whole ≡ length xs = same_len_mid n (length xs - n) xs rest mid in
    let front : take n xs ≡ warm_up = rw (← long) (take-append_seam warm_up (drop (length warm_up) s)) in
    sym (take_all (n + length rest) whole (omega (arith, kept))) ∙ take-put_mid n (length xs - n) xs rest (n + length rest) refl (omega arith) ∙ ap (λ (t : List ℤ). t ++ rest) front

pub fixed_length : (order : ℕ) → order ≤ 4 → length (fixed_coefficients order) ≡ order
fixed_length zero le = refl
fixed_length (suc zero) le = refl
fixed_length (suc (suc zero)) le = refl
fixed_length (suc (suc (suc zero))) le = refl
fixed_length (suc (suc (suc (suc zero)))) le = refl
fixed_length (suc (suc (suc (suc (suc n))))) le = absurd (omega (arith, le))

-- what restoration answered, of the places before it
pub restored_same : (shift depth : ℕ) (cs ds warm_up rest w s : List ℤ) (b : Bool) → ds ≡ cs → w ≡ warm_up ++ rest → length cs ≤ length warm_up
    → (IsTrue b → Restored ds shift w s) → (IsTrue b → All (FitsBits depth) s) → ((t : List ℤ) → Restored ds shift w t → All (FitsBits depth) t → IsTrue b)
    → cond (all_fit depth (restored cs shift (warm_up ++ rest))) (Some (restored cs shift (warm_up ++ rest))) None ≡ cond b (Some s) None
restored_same shift depth cs ds warm_up rest w s b same whole enough is fit only =
    let e : length cs ≤ length (warm_up ++ rest) = omega (arith, length-append warm_up rest) in
    rw (← whole, ← same) (restored_fits ds shift depth w s b (rw (whole, same) e) is fit only)

-- how many values the residual has beside those of the warm-up samples
pub left_over : (n : ℕ) (warm_up s : List ℤ) → length warm_up ≡ n → n ≤ length s → length (take (length (warm_up ++ drop n s) - n) (drop n (warm_up ++ drop n s))) + n ≡ length s
left_over n warm_up s long within =
    let xs : List ℤ = warm_up ++ drop n s in
    let size : length xs ≡ length s = omega (arith, length-append warm_up (drop n s), length-drop n s) in
    omega (arith, length-take (length xs - n) (drop n xs), length-drop n xs)
