-- Samples that are computed from a form that was read.
use Rattle.std.proofs.Common.{◌≡◌, ℕ, zero, suc, ◌-◌, List, [], ◌∷◌, true, Some, Ok, refl, sym, ◌∙◌, ℤ, All, arith, ◌^◌, pos, negsuc, replicate}
use Rattle.flac_bits.specs.State.{Cursor}
use Rattle.flac_bits.specs.Lists.{list_of}
use Rattle.flac_bits.specs.Layout.{number_at, number_from, run, and_then, bind, done}
use Rattle.flac_subframe.specs.declared.format.limits.Limits.{Limits}
use Rattle.flac_bits.specs.Signed.{FitsBits}
use Rattle.flac_subframe.specs.format.Numbers.{fits, all_fit}
use Rattle.flac_bits.specs.Signed.{signed_field}
use Rattle.flac_subframe.specs.format.Subframe.{Content, Constant, header, content, constant, subframe, scaled, fitting, restored_samples, content_samples, subframe_samples}
use Rattle.flac_subframe.proofs.lemmas.format.Steps.{and_then_and_then, same_then}
use Rattle.std.proofs.lemmas.Int.{ints}
use Rattle.std.proofs.lemmas.Bool.{lt-ltb}
use Rattle.std.proofs.lemmas.List.Elements.{All-head, All-tail, All-replicate}

-- the form and its samples in one step
pub samples_run : (depth block : ℕ) (limits : Limits) (c : Cursor)
    → run (subframe_samples depth block limits) c ≡ and_then (run (header depth block limits) c) (λ h d. and_then (run (content_samples h.kind (depth - h.wasted) block limits.partition) d) (λ o e. Ok (scaled h.wasted o, e)))
unfolding subframe_samples subframe content_samples
samples_run depth block limits c =
    and_then_and_then (run (header depth block limits) c) _ _
    ∙ same_then (run (header depth block limits) c) _ _ (λ h d.
    and_then_and_then (run (content h.kind (depth - h.wasted) block limits.partition) d) _ _
    ∙ sym (and_then_and_then (run (content h.kind (depth - h.wasted) block limits.partition) d) _ _))

-- numbers that fit
fits_is : (n : ℕ) (z : ℤ) → FitsBits n z → fits n z ≡ true
fits_is n (pos a) f = lt-ltb a (2 ^ (n - 1)) (omega (arith, ints, f.low, f.high))
fits_is n (negsuc a) f = lt-ltb a (2 ^ (n - 1)) (omega (arith, ints, f.low, f.high))

pub all_fit_is : (n : ℕ) (zs : List ℤ) → All (FitsBits n) zs → all_fit n zs ≡ true
all_fit_is n [] h = refl
all_fit_is n (z ∷ zs) h = rw (fits_is n z (All-head (FitsBits n) z zs h)) (all_fit_is n zs (All-tail (FitsBits n) z zs h))

-- samples that fit are kept
pub fitting_is : (depth block : ℕ) (c : Content) → All (FitsBits depth) (restored_samples block c) → fitting depth block c ≡ Some (restored_samples block c)
unfolding fitting
fitting_is depth block c h = rw (all_fit_is depth (restored_samples block c) h) refl

-- one sample in each place
pub constant_read : (depth block : ℕ) (c d : Cursor) (v : ℤ) → FitsBits depth v → run (signed_field depth) c ≡ Ok (v, d) → run (bind (constant depth) (λ x. done (fitting depth block x))) c ≡ Ok (Some (replicate block v), d)
unfolding constant
constant_read depth block c d v fit reads =
    let e : fitting depth block (Constant v) ≡ Some (replicate block v) = fitting_is depth block (Constant v) (All-replicate (FitsBits depth) block v fit) in
    rw (reads, e) refl

-- numbers of no bits
pub no_bits : (n : ℕ) (c : Cursor) → run (list_of n (signed_field 0)) c ≡ Ok (replicate n (pos 0), c)
unfolding list_of signed_field number_at number_from
no_bits zero c = refl
no_bits (suc n) c = rw (no_bits n c) refl
