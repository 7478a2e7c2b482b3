-- Sums that get four products more in one turn of a loop.
use mir.Syntax.{Width}
use mir.Val.{hbits}
use Rattle.std.proofs.Common.{◌≡◌, ◌∙◌, refl, to_z, of_z, w32, FitsSigned, ℕ, ◌+◌, ◌-◌, ◌^◌, ◌≤◌, ◌<◌, arith, ℤ, ◌+ℤ◌, ◌*ℤ◌, List, length, take, slice_set}
use Rattle.std.specs.Int.RustNames.{unsigned_abs}
use Rattle.flac_subframe.specs.format.Numbers.{sample_at}
use Rattle.flac_subframe.specs.format.Prediction.{weighted}
use Rattle.flac_subframe.specs.format.inner.Products.{StayBelow}
use Rattle.flac_subframe.proofs.lemmas.format.Lanes.{SumsTo, sums_more, code_product_below, code_sum_below, next_is, next_held}

-- the product of the coefficient k and the sample at b, as the code has it; with a sum it is the next one
abbrev pub product_of : List ℤ → List ℤ → ℕ → ℕ → ℤ
product_of cs s k b = to_z w32 (of_z w32 (sample_at cs k)) *ℤ to_z w32 (of_z w32 (sample_at s b))

abbrev pub sum_of : Width → List ℤ → List ℤ → ℕ → ℕ → ℤ → ℤ
sum_of w cs s k b raw = to_z w (of_z w raw) +ℤ product_of cs s k b

-- both are small
abbrev pub AreSmall : Width → List ℤ → List ℤ → ℕ → ℕ → ℤ → Type 0
AreSmall w cs s k b raw = (unsigned_abs (product_of cs s k b) < 2 ^ hbits w) × (unsigned_abs (sum_of w cs s k b raw) < 2 ^ hbits w)

module _ (w : Width) (cs s sums : List ℤ) (k i m : ℕ) (small : StayBelow (2 ^ hbits w) cs s)
    (within : i < length sums) (so : SumsTo k m cs s i sums) (fit₁ : FitsSigned w32 (sample_at cs k)) (near₁ : FitsSigned w32 (sample_at s (length cs + i - 1 - k))) where
  begin_is : sample_at sums i ≡ weighted (take k cs) s (length cs + i)
  begin_is = so.left i (omega arith) within

  module _ (some : k + 1 ≤ length cs) where
    in_0 : k < length cs
    in_0 = omega (arith, some)

    pub one_small : AreSmall w cs s k (length cs + i - 1 - k) (sample_at sums i)
    one_small =
        let b : ℕ = length cs + i - 1 - k in let at : ℕ = length cs + i in (
          code_product_below w cs s small k (k + 1) b at refl refl in_0 _ fit₁ near₁ begin_is,
          code_sum_below w cs s small k (k + 1) b at refl refl in_0 _ fit₁ near₁ begin_is,
        )

    pub one_is : (r : ℤ) → r ≡ sum_of w cs s k (length cs + i - 1 - k) (sample_at sums i) → r ≡ weighted (take (k + 1) cs) s (length cs + i)
    one_is r e =
        let b : ℕ = length cs + i - 1 - k in
        next_is w cs s small k (k + 1) b (length cs + i) refl refl in_0 _ fit₁ near₁ begin_is r e

    pub one_held : (r : ℤ) → r ≡ sum_of w cs s k (length cs + i - 1 - k) (sample_at sums i) → m ≡ k + 1 → SumsTo k m cs s (i + 1) (slice_set sums i (to_z w (of_z w r)))
    one_held r e is =
        let b : ℕ = length cs + i - 1 - k in
        sums_more k m cs s sums i _ within (next_held w cs s small k m b (length cs + i) is refl in_0 _ fit₁ near₁ begin_is r e) so

  module _ (four : k + 4 ≤ length cs) where
    in_1 : k + 1 < length cs
    in_1 = omega (arith, four)

    in_2 : k + 2 < length cs
    in_2 = omega (arith, four)

    in_3 : k + 3 < length cs
    in_3 = omega (arith, four)

    some : k + 1 ≤ length cs
    some = omega (arith, four)

    next_2 : k + 2 ≡ k + 1 + 1
    next_2 = omega arith

    next_3 : k + 3 ≡ k + 2 + 1
    next_3 = omega arith

    next_4 : k + 4 ≡ k + 3 + 1
    next_4 = omega arith

    place_2 : length cs + i - 2 - k ≡ length cs + i - 1 - (k + 1)
    place_2 = omega arith

    place_3 : length cs + i - 3 - k ≡ length cs + i - 1 - (k + 2)
    place_3 = omega arith

    place_4 : length cs + i - 4 - k ≡ length cs + i - 1 - (k + 3)
    place_4 = omega arith

    module _ (one : ℤ) (e₁ : one ≡ sum_of w cs s k (length cs + i - 1 - k) (sample_at sums i))
        (fit₂ : FitsSigned w32 (sample_at cs (k + 1))) (near₂ : FitsSigned w32 (sample_at s (length cs + i - 2 - k))) where
      pub two_small : AreSmall w cs s (k + 1) (length cs + i - 2 - k) one
      two_small =
          let b : ℕ = length cs + i - 2 - k in let at : ℕ = length cs + i in (
            code_product_below w cs s small (k + 1) (k + 2) b at next_2 place_2 in_1 one fit₂ near₂ (one_is some one e₁),
            code_sum_below w cs s small (k + 1) (k + 2) b at next_2 place_2 in_1 one fit₂ near₂ (one_is some one e₁),
          )

      module _ (two : ℤ) (e₂ : two ≡ sum_of w cs s (k + 1) (length cs + i - 2 - k) one)
          (fit₃ : FitsSigned w32 (sample_at cs (k + 2))) (near₃ : FitsSigned w32 (sample_at s (length cs + i - 3 - k))) where
        two_is : two ≡ weighted (take (k + 2) cs) s (length cs + i)
        two_is =
            let b : ℕ = length cs + i - 2 - k in
            next_is w cs s small (k + 1) (k + 2) b (length cs + i) next_2 place_2 in_1 one fit₂ near₂ (one_is some one e₁) two e₂

        pub three_small : AreSmall w cs s (k + 2) (length cs + i - 3 - k) two
        three_small =
            let b : ℕ = length cs + i - 3 - k in let at : ℕ = length cs + i in (
              code_product_below w cs s small (k + 2) (k + 3) b at next_3 place_3 in_2 two fit₃ near₃ two_is,
              code_sum_below w cs s small (k + 2) (k + 3) b at next_3 place_3 in_2 two fit₃ near₃ two_is,
            )

        module _ (three : ℤ) (e₃ : three ≡ sum_of w cs s (k + 2) (length cs + i - 3 - k) two)
            (fit₄ : FitsSigned w32 (sample_at cs (k + 3))) (near₄ : FitsSigned w32 (sample_at s (length cs + i - 4 - k))) where
          three_is : three ≡ weighted (take (k + 3) cs) s (length cs + i)
          three_is =
              let b : ℕ = length cs + i - 3 - k in
              next_is w cs s small (k + 2) (k + 3) b (length cs + i) next_3 place_3 in_2 two fit₃ near₃ two_is three e₃

          pub four_small : AreSmall w cs s (k + 3) (length cs + i - 4 - k) three
          four_small =
              let b : ℕ = length cs + i - 4 - k in let at : ℕ = length cs + i in (
                code_product_below w cs s small (k + 3) (k + 4) b at next_4 place_4 in_3 three fit₄ near₄ three_is,
                code_sum_below w cs s small (k + 3) (k + 4) b at next_4 place_4 in_3 three fit₄ near₄ three_is,
              )

          pub four_held : (r : ℤ) → r ≡ sum_of w cs s (k + 3) (length cs + i - 4 - k) three → m ≡ k + 4 → SumsTo k m cs s (i + 1) (slice_set sums i (to_z w (of_z w r)))
          four_held r e is =
              let b : ℕ = length cs + i - 4 - k in let next = is ∙ next_4 in
              sums_more k m cs s sums i _ within (next_held w cs s small (k + 3) m b (length cs + i) next place_4 in_3 three fit₄ near₄ three_is r e) so
