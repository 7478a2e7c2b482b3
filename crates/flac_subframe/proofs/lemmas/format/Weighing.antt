-- The sum of products, the nearest sample apart.
use Rattle.std.proofs.Common.{◌≡◌, ◌∙◌, ℕ, ◌+◌, ◌-◌, ◌*◌, ◌^◌, ◌≤◌, ◌<◌, refl, sym, ap, arith, ℤ, pos, ◌+ℤ◌, ◌*ℤ◌, List, [], ◌∷◌, length, drop, FitsSigned, to_z, of_z, w32, w64}
use Rattle.std.proofs.Math.IntN.{+ℤ_assoc, +ℤ_comm, +ℤ_idr}
use Rattle.std.specs.Int.{int_shr}
use Rattle.std.specs.Int.RustNames.{unsigned_abs}
use Rattle.std.proofs.lemmas.List.{drop_more, drop_all}
use Rattle.flac_bits.specs.Signed.{FitsBits}
use Rattle.flac_subframe.specs.format.Numbers.{sample_at}
use Rattle.flac_subframe.specs.format.Prediction.{prediction, weighted}
use Rattle.flac_subframe.proofs.lemmas.format.Bounds.{product_fits, sum_fits, sum_back, sum_small, back, back_32, shifted_small}

-- one product of the code
module _ (c x : ℤ) (f : FitsBits 15 c) (g : FitsBits 33 x) where
  narrow : c ≡ to_z w32 (of_z w32 c)
  narrow = sym (back_32 c f)

  pub term_fits : FitsSigned w64 (to_z w64 (of_z w64 c) *ℤ to_z w64 (of_z w64 x))
  term_fits = product_fits c c x narrow f g

  module _ (sum : ℤ) (j : ℕ) (some : 1 ≤ j) (few : j ≤ 32) (small : unsigned_abs sum + 2 ^ 46 ≤ 2 ^ 46 * j) where
    before : unsigned_abs sum ≤ 2 ^ 46 * (j - 1)
    before = omega (arith, small)

    pub next_fits : FitsSigned w64 (sum +ℤ to_z w64 (of_z w64 (to_z w64 (of_z w64 c) *ℤ to_z w64 (of_z w64 x))))
    next_fits = sum_fits c c x narrow f g sum (j - 1) (omega arith) before

    pub next_is : to_z w64 (of_z w64 (sum +ℤ to_z w64 (of_z w64 (to_z w64 (of_z w64 c) *ℤ to_z w64 (of_z w64 x))))) ≡ sum +ℤ (c *ℤ x)
    next_is = sum_back c c x narrow f g sum (j - 1) (omega arith) before

    pub next_small : unsigned_abs (sum +ℤ (c *ℤ x)) ≤ 2 ^ 46 * j
    next_small = let h = sum_small c c x narrow f g sum (j - 1) (omega arith) before in omega (arith, h)

-- one more product
pub weigh_more : (cs s : List ℤ) (at j : ℕ) (sum total : ℤ) → j < length cs → sum +ℤ weighted (drop j cs) s (at - j) ≡ total
    → (sum +ℤ (sample_at cs j *ℤ sample_at s (at - 1 - j))) +ℤ weighted (drop (j + 1) cs) s (at - (j + 1)) ≡ total
unfolding weighted
weigh_more cs s at j sum total lt was =
    let e : at - j - 1 ≡ at - (j + 1) = omega arith in
    let g : at - 1 - j ≡ at - (j + 1) = omega arith in
    let w = rw (drop_more cs j (pos 0) lt, e) at was in
    rw g (+ℤ_assoc sum (sample_at cs j *ℤ sample_at s (at - (j + 1))) (weighted (drop (j + 1) cs) s (at - (j + 1))) ∙ w)

-- all products but the nearest
pub weigh_end : (cs s : List ℤ) (at j : ℕ) (sum total : ℤ) → length cs ≤ j → sum +ℤ weighted (drop j cs) s (at - j) ≡ total → sum ≡ total
unfolding weighted
weigh_end cs s at j sum total le was = sym (+ℤ_idr sum) ∙ rw (drop_all j cs le) at was

pub weigh_first : (cs s : List ℤ) (at : ℕ) → 1 ≤ length cs → weighted cs s at ≡ (sample_at cs 0 *ℤ sample_at s (at - 1)) +ℤ weighted (drop 1 cs) s (at - 1)
unfolding weighted
weigh_first [] s at h = absurd (omega arith)
weigh_first (c ∷ cs) s at h = refl

module _ (cs s : List ℤ) (shift at j : ℕ) (sum near : ℤ) (some : 1 ≤ length cs) (few : length cs ≤ 32) (all : length cs ≤ j) (end : j ≤ length cs) (f : FitsBits 15 (sample_at cs 0)) (g : FitsBits 33 near)
    (is : near ≡ sample_at s (at - 1)) (so : sum +ℤ weighted (drop j cs) s (at - j) ≡ weighted (drop 1 cs) s (at - 1)) (small : unsigned_abs sum + 2 ^ 46 ≤ 2 ^ 46 * j) where
  code : ℤ
  code = to_z w64 (of_z w64 (sum +ℤ to_z w64 (of_z w64 (to_z w64 (of_z w64 (sample_at cs 0)) *ℤ to_z w64 (of_z w64 near)))))

  exact : to_z w64 (of_z w64 (sum +ℤ to_z w64 (of_z w64 (to_z w64 (of_z w64 (sample_at cs 0)) *ℤ to_z w64 (of_z w64 near))))) ≡ sum +ℤ (sample_at cs 0 *ℤ near)
  exact = next_is (sample_at cs 0) near f g sum j (omega arith) (omega arith) small

  whole : sum +ℤ (sample_at cs 0 *ℤ near) ≡ weighted cs s at
  whole =
      let e : sum ≡ weighted (drop 1 cs) s (at - 1) = weigh_end cs s at j sum _ all so in
      +ℤ_comm sum (sample_at cs 0 *ℤ near) ∙ rw (e, is) (sym (weigh_first cs s at some))

  bound : unsigned_abs (sum +ℤ (sample_at cs 0 *ℤ near)) ≤ 2 ^ 51
  bound = let h = next_small (sample_at cs 0) near f g sum j (omega arith) (omega arith) small in omega (arith, h)

  pub weighed_is : to_z w64 (of_z w64 (int_shr (to_z w64 (of_z w64 (sum +ℤ to_z w64 (of_z w64 (to_z w64 (of_z w64 (sample_at cs 0)) *ℤ to_z w64 (of_z w64 near)))))) shift)) ≡ prediction cs shift s at
  weighed_is =
      let h = shifted_small (sum +ℤ (sample_at cs 0 *ℤ near)) shift bound in
      rw exact (back (int_shr (sum +ℤ (sample_at cs 0 *ℤ near)) shift) (omega (arith, h)) ∙ ap (λ (z : ℤ). int_shr z shift) whole)

  pub weighed_small : unsigned_abs (prediction cs shift s at) ≤ 2 ^ 51
  weighed_small = shifted_small (weighted cs s at) shift (rw (← whole) bound)
