use Rattle.std.proofs.Common.{◌≡◌, ℕ, ◌+◌, ◌-◌, ◌*◌, ◌/◌, ◌%◌, ◌^◌, ◌≤◌, ◌<◌, ap, ◌∙◌, arith}
use Rattle.flac_bits.specs.Rice.{unfolded}
use Rattle.flac_bits.proofs.Codes.{one_shifted}
use Rattle.flac_bits.proofs.Rices.{joined, folded_small, ready_limit}
use Rattle.flac_bits.proofs.Signs.{double, residual_kept}
use Rattle.flac_bits.proofs.signed.value_of_code.Goals as goal

abbrev half : ℕ → ℕ → ℕ → ℕ
half z k b = (z * 2 ^ (k - 1) % 2 ^ 64 + b / 2 + (2 ^ 64 - 1 * 2 ^ (k - 1) % 2 ^ 64)) % 2 ^ 64

module _ (z k b : ℕ) (some : 1 ≤ k) (few : z ≤ 62) (small : k ≤ 26) (least : 2 ^ k ≤ b) (most : b < 2 * 2 ^ k) where
  parts : 2 * (z * 2 ^ (k - 1) + (b / 2 - 2 ^ (k - 1))) + b % 2 ≡ z * 2 ^ k + (b - 2 ^ k)
  parts =
      let twice : (p : ℕ) → z * (2 * p) ≡ 2 * (z * p) = λ p. grind arith in
      omega (arith, least, double k some, ap (λ p. z * p) (double k some) ∙ twice (2 ^ (k - 1)))

  fits : 2 * (z * 2 ^ (k - 1) + (b / 2 - 2 ^ (k - 1))) + b % 2 ≤ 4294967294
  fits = folded_small z (b - 2 ^ k) 62 k _ few (omega (arith, most, least)) parts (ready_limit k small)

  half_is : half z k b ≡ z * 2 ^ (k - 1) + (b / 2 - 2 ^ (k - 1))
  half_is = omega (arith, one_shifted (k - 1) (omega (arith, small)), joined z (k - 1) 62 few (omega arith) (omega (arith, small)), least, double k some, fits)

  sum_is : 2 * half z k b + b % 2 ≡ z * 2 ^ k + (b - 2 ^ k)
  sum_is = ap (λ h. 2 * h + b % 2) half_is ∙ parts

  sum_fits : 2 * half z k b + b % 2 ≤ 4294967294
  sum_fits = omega (arith, half_is, fits)

pub returns-clause-value : goal.returns-clause-value
returns-clause-value c = λ few least most.
    let some : 1 ≤ c.args.k = omega (arith, c.if-k-eq0.false) in
    let fits : 2 * half c.from-2.result c.args.k c.args.one_and_low + c.args.one_and_low % 2 ≤ 4294967294 = rw c.from-2.ensures (sum_fits c.args.zeros c.args.k c.args.one_and_low some few c.requires.k least most) in
    residual_kept c.unfolded_half.result (c.unfolded_half.ensures.fits fits) ∙ c.unfolded_half.ensures.value fits
    ∙ ap unfolded (rw c.from-2.ensures (sum_is c.args.zeros c.args.k c.args.one_and_low some few c.requires.k least most))

pub returns-clause-fits : goal.returns-clause-fits
returns-clause-fits c = λ few least most.
    let some : 1 ≤ c.args.k = omega (arith, c.if-k-eq0.false) in
    let fits : 2 * half c.from-2.result c.args.k c.args.one_and_low + c.args.one_and_low % 2 ≤ 4294967294 = rw c.from-2.ensures (sum_fits c.args.zeros c.args.k c.args.one_and_low some few c.requires.k least most) in
    rw (residual_kept c.unfolded_half.result (c.unfolded_half.ensures.fits fits)) (c.unfolded_half.ensures.fits fits)
