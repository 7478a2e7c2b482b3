-- What was chosen for samples may be spelled, and its samples are those.
use Rattle.std.proofs.Common.{◌≡◌, ◌∙◌, refl, sym, ap, subst, ℕ, zero, suc, ◌+◌, ◌-◌, ◌*◌, ◌^◌, ◌≤◌, ◌<◌, arith, ℤ, pos, negsuc, List, ◌++◌, Option, Some, length, take, map, All, get_or, length-append}
use Rattle.std.specs.Int.RustNames.{unsigned_abs}
use Rattle.std.proofs.lemmas.Int.{ints, unsigned_abs-mul}
use Rattle.std.proofs.lemmas.Nat.{pow-add, pow_pos}
use Rattle.std.proofs.Math.Nat.{suc-mul, lt_of_mul-lt-mul_right}
use Rattle.std.proofs.lemmas.List.{length-map, get_or-map}
use Rattle.std.proofs.lemmas.List.Elements.{All-take}
use Rattle.flac_bits.specs.Signed.{FitsBits}
use Rattle.flac_subframe.specs.declared.format.limits.Limits.{Limits}
use Rattle.flac_subframe.specs.declared.format.linear.LinearPredictor.{LinearPredictor}
use Rattle.flac_subframe.specs.format.Bodies.{Chooses, fixed, linear, Body, constant, verbatim, predicted, Predicts, StandsFor, content_of}
use Rattle.flac_subframe.specs.format.Chosen.{offered}
use Rattle.flac_subframe.specs.format.Handed.{coefficients_in, predictor_of, AreWithin}
use Rattle.flac_subframe.specs.format.Cost.{Codings}
use Rattle.flac_subframe.specs.format.Prediction.{fixed_coefficients, restored}
use Rattle.flac_subframe.specs.format.Spelling.{FitsWidth, MayHold, IsSubframe}
use Rattle.flac_subframe.specs.format.Subframe.{restored_samples, samples_of, fitting}
use Rattle.flac_subframe.specs.format.Wasted.{times_power}
use Rattle.flac_subframe.proofs.lemmas.search.Bodies.{warm_up_is}
use Rattle.flac_subframe.proofs.lemmas.search.Cuts.{may_leave, values_are}
use Rattle.flac_subframe.proofs.lemmas.format.Differences.{first_all}
use Rattle.flac_subframe.proofs.lemmas.format.Made.{among_few, among_handed, handed_one}
use Rattle.flac_subframe.proofs.lemmas.format.Predicted.{fixed_length}
use Rattle.flac_subframe.proofs.lemmas.format.Samples.{all_fit_is}
use Rattle.flac_subframe.proofs.lemmas.format.Unique.{only_one, restored_is}

-- ---- samples without their lowest bits

unscaled : (d k : ℕ) (z : ℤ) → k < d → FitsBits d (times_power k z) → FitsBits (d - k) z
unscaled d k (pos a) lt f =
    let e : d - 1 ≡ (d - k - 1) + k = omega arith in
    let whole : 2 ^ (d - 1) ≡ 2 ^ (d - k - 1) * 2 ^ k = ap (λ n. 2 ^ n) e ∙ pow-add 2 (d - k - 1) k in
    let below : a * 2 ^ k < 2 ^ (d - k - 1) * 2 ^ k = omega (arith, ints, f.high, whole) in
    let h : a < 2 ^ (d - k - 1) = lt_of_mul-lt-mul_right (2 ^ k) below in
    record { low = omega (arith, ints, h); high = omega (arith, ints, h) }
unscaled d k (negsuc a) lt f =
    let e : d - 1 ≡ (d - k - 1) + k = omega arith in
    let whole : 2 ^ (d - 1) ≡ 2 ^ (d - k - 1) * 2 ^ k = ap (λ n. 2 ^ n) e ∙ pow-add 2 (d - k - 1) k in
    let size : unsigned_abs (times_power k (negsuc a)) ≡ suc a * 2 ^ k = unsigned_abs-mul (negsuc a) (pos (2 ^ k)) in
    let more : suc a * 2 ^ k ≡ a * 2 ^ k + 2 ^ k = omega (arith, suc-mul a (2 ^ k)) in
    let below : a * 2 ^ k < 2 ^ (d - k - 1) * 2 ^ k = omega (arith, ints, f.low, f.high, whole, size, more, pow_pos k) in
    let h : a < 2 ^ (d - k - 1) = lt_of_mul-lt-mul_right (2 ^ k) below in
    record { low = omega (arith, ints, h); high = omega (arith, ints, h) }

fits_width : (n : ℕ) (z : ℤ) → 1 ≤ n → FitsBits n z → FitsWidth n z
fits_width zero z some f = absurd (omega (arith, some))
fits_width (suc n) z some f = f

pub all_width : (n : ℕ) (zs : List ℤ) → 1 ≤ n → All (FitsBits n) zs → All (FitsWidth n) zs
all_width n zs some all = λ i d h. fits_width n _ some (all i d h)

module _ (most d k : ℕ) (s t : List ℤ) (left : k < d) (times : s ≡ map (times_power k) t) (fits : All (FitsBits d) s) where
  long : length s ≡ length t
  long = ap length times ∙ length-map t (times_power k)

  fit : All (FitsBits (d - k)) t
  fit = λ i x h.
      let f : FitsBits d (get_or s i (pos 0)) = fits i (pos 0) (omega (arith, long)) in
      let e : get_or s i (pos 0) ≡ times_power k (get_or t i x) = ap (λ (l : List ℤ). get_or l i (pos 0)) times ∙ get_or-map (times_power k) t i x (pos 0) h in
      unscaled d k (get_or t i x) left (rw e at f)

  -- by a linear predictor
  may_linear : (limits : Limits) (q : LinearPredictor) (ws : List ℤ) (f : Codings) (rs : List ℤ) → most ≤ limits.partition → most ≤ 15 → length (coefficients_in q) ≤ limits.linear → Predicts most (predictor_of q) ws f rs t
      → MayHold (d - k) (length s) limits (content_of (predicted (predictor_of q) ws f rs))
  may_linear limits q ws f rs le few within h =
      let cs : List ℤ = coefficients_in q in
      let ws_is : ws ≡ take (length cs) t = warm_up_is cs q.shift t ws rs h.long h.restored in
      let all : length t ≡ length ws + length rs = h.restored.long ∙ length-append ws rs in
      let warm : All (FitsBits (d - k)) ws = rw ws_is (All-take (FitsBits (d - k)) (length cs) t fit) in
      let room = h.room in
      let many = h.long in
      let block : length s ≡ length rs + length cs = omega (arith, long, all, many) in (
        omega (arith, many, q.some),
        omega (arith, many, within),
        omega (arith, many, room, long),
        record { many = refl; fit = all_width (d - k) ws (omega (arith, left)) warm },
        record { some = q.some_bits; few = q.few_bits; shift = q.small_shift; many = sym many; fit = all_width q.precision cs q.some_bits q.fit },
        rw (block, many) (may_leave most (length cs) rs f h.written limits.partition le few h.range),
      )

  may_hold : (limits : Limits) (ps : List LinearPredictor) (b : Body) → 0 < length s → most ≤ limits.partition → most ≤ 15 → AreWithin limits.linear ps → StandsFor most (offered ps) b t → MayHold (d - k) (length s) limits (content_of b)
  may_hold limits ps (constant v) some le few within stands =
      let h : 0 < length t = omega (arith, some, long) in
      fits_width (d - k) v (omega (arith, left)) (rw (first_all t v stands 0 h) at (fit 0 (pos 0) h))
  may_hold limits ps (verbatim vs) some le few within stands = record { many = ap length stands ∙ sym long; fit = rw stands (all_width (d - k) t (omega (arith, left)) fit) }
  may_hold limits ps (predicted (fixed order) ws f rs) some le few within stands =
      let four = among_few order ps stands.0 in
      let h = stands.1 in
      let size = fixed_length order four in
      let cs : List ℤ = fixed_coefficients order in
      let ws_is : ws ≡ take (length cs) t = warm_up_is cs 0 t ws rs h.long h.restored in
      let all : length t ≡ length ws + length rs = h.restored.long ∙ length-append ws rs in
      let warm : All (FitsBits (d - k)) ws = rw ws_is (All-take (FitsBits (d - k)) (length cs) t fit) in
      let room = h.room in
      let many = h.long in
      let block : length s ≡ length rs + length cs = omega (arith, long, all, many) in (
        omega (arith, many, size),
        omega (arith, many, room, long),
        record { many = refl; fit = all_width (d - k) ws (omega (arith, left)) warm },
        rw (block, many) (may_leave most (length cs) rs f h.written limits.partition le few h.range),
      )
  may_hold limits ps (predicted (linear precision shift cs) ws f rs) some le few within stands =
      let p : Chooses = linear precision shift cs in
      let one = handed_one limits.linear p ps within (among_handed precision shift cs ps stands.0) in
      let P : Chooses → Type 0 = λ x. Predicts most x ws f rs t → MayHold (d - k) (length s) limits (content_of (predicted x ws f rs)) in
      subst P (sym one.1) (may_linear limits one.0 ws f rs le few one.2) stands.1

  pub may_be : (limits : Limits) (ps : List LinearPredictor) (b : Body) → 0 < length s → most ≤ limits.partition → most ≤ 15 → AreWithin limits.linear ps → StandsFor most (offered ps) b t → IsSubframe d (length s) limits (record { wasted = k; content = content_of b })
  may_be limits ps b some le few within stands = record { left = left; content = may_hold limits ps b some le few within stands }

  are_restored : (ps : List LinearPredictor) (b : Body) → StandsFor most (offered ps) b t → restored_samples (length s) (content_of b) ≡ t
  are_restored ps (constant v) stands = rw long (sym stands)
  are_restored ps (verbatim vs) stands = stands
  are_restored ps (predicted (fixed order) ws f rs) stands =
      let h = stands.1 in
      let cs : List ℤ = fixed_coefficients order in
      let e : length ws ≡ order = h.long ∙ fixed_length order (among_few order ps stands.0) in
      let many = h.long in
      rw (e, values_are most (length cs) rs f h.written) (only_one cs 0 (ws ++ rs) (restored cs 0 (ws ++ rs)) t (restored_is cs 0 (ws ++ rs) (omega (arith, many, length-append ws rs))) h.restored)
  are_restored ps (predicted (linear precision shift cs) ws f rs) stands =
      let h = stands.1 in
      let many = h.long in
      rw (values_are most (length cs) rs f h.written) (only_one cs shift (ws ++ rs) (restored cs shift (ws ++ rs)) t (restored_is cs shift (ws ++ rs) (omega (arith, many, length-append ws rs))) h.restored)

  some_of : List ℤ → Option (List ℤ)
  some_of l = Some l

  pub are_samples : (ps : List LinearPredictor) (b : Body) → StandsFor most (offered ps) b t → samples_of d (length s) (record { wasted = k; content = content_of b }) ≡ Some s
  unfolding fitting some_of
  are_samples ps b stands = rw (are_restored ps b stands, all_fit_is (d - k) t fit) (ap some_of (sym times))
