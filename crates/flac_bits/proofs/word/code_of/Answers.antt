use Rattle.std.proofs.Common.{rules, ◌≡◌, ◌<◌, ◌≤◌, ◌+◌, ◌-◌, ◌*◌, ◌/◌, ◌%◌, ◌^◌, ℕ, ◌++◌, sym, ap, ◌∙◌, arith}
use Rattle.std.specs.Int.{w64, leading_zeros}
use Rattle.std.proofs.lemmas.Nat.{mod_below, pow_pos}
use Rattle.flac_bits.specs.Bits.{unsigned}
use Rattle.flac_bits.specs.Meaning.{unary_bits}
use Rattle.flac_bits.specs.Rice.{unfolded, IsResidual}
use Rattle.flac_bits.specs.inner.Stretches.{top_bits}
use Rattle.flac_bits.proofs.Aheads.{shifted_agrees}
use Rattle.flac_bits.proofs.Signs.{residual_kept}
use Rattle.flac_bits.proofs.Words.{top_same, both_is, ahead_is, rest_is, code_taken}
use Rattle.flac_bits.proofs.word.code_of.Goals as goal

module _ (w k n : ℕ) (fits : w < 2 ^ 64) (few : n ≤ 63) (le : leading_zeros w64 w + 1 + k ≤ n) where
  abbrev z : ℕ
  z = leading_zeros w64 w

  abbrev b : ℕ
  b = w / 2 ^ (64 - (z + 1 + k))

  pub zeros_few : z ≤ 62
  zeros_few = omega (arith, le, few)

  pub kept : z % 64 ≡ z
  kept = omega (arith, zeros_few)

  one_and_low : w * 2 ^ (z % 64) % 2 ^ 64 / 2 ^ (63 - k) ≡ b
  one_and_low = ap (λ j. w * 2 ^ j % 2 ^ 64 / 2 ^ (63 - k)) kept ∙ ahead_is w z k n fits few (top_same w k n fits few le) le

  one : b ≡ 2 ^ k + b % 2 ^ k
  one = both_is w z k n fits few (top_same w k n fits few le) le

  pub low_small : b % 2 ^ k < 2 ^ k
  low_small = mod_below b (2 ^ k) (pow_pos k)

  pub least : 2 ^ k ≤ w * 2 ^ (z % 64) % 2 ^ 64 / 2 ^ (63 - k)
  least = omega (arith, one_and_low, one)

  pub most : w * 2 ^ (z % 64) % 2 ^ 64 / 2 ^ (63 - k) < 2 * 2 ^ k
  most = omega (arith, one_and_low, one, low_small)

  pub low_is : w * 2 ^ (z % 64) % 2 ^ 64 / 2 ^ (63 - k) - 2 ^ k ≡ b % 2 ^ k
  low_is = omega (arith, one_and_low, one)

  pub rest : w * 2 ^ (z % 64) % 2 ^ 64 * 2 ^ (k + 1) % 2 ^ 64 ≡ w * 2 ^ (z + 1 + k) % 2 ^ 64
  rest = ap (λ j. w * 2 ^ j % 2 ^ 64 * 2 ^ (k + 1) % 2 ^ 64) kept ∙ rest_is w z k n fits few (top_same w k n fits few le) le

  pub taken : top_bits w n ≡ (unary_bits z ++ unsigned k (b % 2 ^ k)) ++ top_bits (w * 2 ^ (z % 64) % 2 ^ 64 * 2 ^ (k + 1) % 2 ^ 64) (n - (z + 1 + k))
  taken = code_taken w z k n fits few (top_same w k n fits few le) le ∙ ap (λ v. (unary_bits z ++ unsigned k (b % 2 ^ k)) ++ top_bits v (n - (z + 1 + k))) (sym rest)

pub returns-clause-read : goal.returns-clause-read
returns-clause-read c = λ n few le.
    let w = c.args.word in
    let k = c.args.k in
    let fits : w < 2 ^ 64 = search rules in
    let z = leading_zeros w64 w in
    let zeros = zeros_few w k n fits few le in
    let first = least w k n fits few le in
    let last = most w k n fits few le in
    let v = c.value_of_code-value in (
      z,
      w / 2 ^ (64 - (z + 1 + k)) % 2 ^ k,
      zeros,
      low_small w k n fits few le,
      residual_kept v.result (v.ensures.fits zeros first last) ∙ v.ensures.value zeros first last ∙ ap (λ low. unfolded (z * 2 ^ k + low)) (low_is w k n fits few le),
      taken w k n fits few le,
    )

pub returns-clause-fits : goal.returns-clause-fits
returns-clause-fits c = λ le.
    let w = c.args.word in
    let k = c.args.k in
    let fits : w < 2 ^ 64 = search rules in
    let some : 63 ≤ 63 = omega arith in
    let v = c.value_of_code-value in
    let is : IsResidual v.result = v.ensures.fits (zeros_few w k 63 fits some le) (least w k 63 fits some le) (most w k 63 fits some le) in
    rw (residual_kept v.result is) is

pub returns-clause-next : goal.returns-clause-next
returns-clause-next c = λ n eight few le agrees.
    let w = c.args.word in
    let k = c.args.k in
    let fits : w < 2 ^ 64 = search rules in
    rw (rest w k n fits few le) (shifted_agrees w (leading_zeros w64 w + 1 + k) n eight le few agrees)
