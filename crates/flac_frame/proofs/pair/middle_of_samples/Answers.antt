use Rattle.std.proofs.Common.{◌≡◌, ◌∙◌, ◌+ℤ◌, ℤ, SFits, to_z, of_z, w32, w64, ap, arith}
use Rattle.std.specs.Int.{int_shr}
use Rattle.std.proofs.lemmas.Int.{ints, to_z-of_z}
use Rattle.flac_frame.proofs.Joins.{half_low, half_high}
use Rattle.flac_frame.proofs.pair.middle_of_samples.Goals as goal

-- what is computed fits 64 bits
wide_fits : (z : ℤ) → SFits w32 z → SFits w64 z
wide_fits z f = omega (arith, ints, f)

sum_fits : (x y : ℤ) → SFits w32 x → SFits w32 y → SFits w64 (x +ℤ y)
sum_fits x y f g = omega (arith, ints, f, g)

half_fits : (z : ℤ) → SFits w64 z → SFits w64 (int_shr z 1)
half_fits z f = omega (arith, ints, f, half_low z, half_high z)

-- and is computed as it is defined
wide_is : (z : ℤ) → SFits w32 z → to_z w64 (of_z w64 (to_z w32 (of_z w32 z))) ≡ z
wide_is z f = ap (λ k. to_z w64 (of_z w64 k)) (to_z-of_z w32 z f) ∙ to_z-of_z w64 z (wide_fits z f)

pub overflow_cast-result : goal.overflow_cast-result
overflow_cast-result c = rw (to_z-of_z w32 c.args.left c.ranges.left) (wide_fits c.args.left c.ranges.left)

pub overflow_cast-result-2 : goal.overflow_cast-result-2
overflow_cast-result-2 c = rw (to_z-of_z w32 c.args.right c.ranges.right) (wide_fits c.args.right c.ranges.right)

pub overflow_add-result : goal.overflow_add-result
overflow_add-result c = rw (wide_is c.args.left c.ranges.left, wide_is c.args.right c.ranges.right) (sum_fits c.args.left c.args.right c.ranges.left c.ranges.right)

pub returns : goal.returns
returns c =
    let sum = c.args.left +ℤ c.args.right in
    let fits : SFits w64 sum = sum_fits c.args.left c.args.right c.ranges.left c.ranges.right in
    rw (wide_is c.args.left c.ranges.left, wide_is c.args.right c.ranges.right, to_z-of_z w64 sum fits) (to_z-of_z w64 (int_shr sum 1) (half_fits sum fits))
