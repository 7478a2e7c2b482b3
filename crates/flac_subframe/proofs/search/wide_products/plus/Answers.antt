use Rattle.std.proofs.Common.{◌≡◌, ◌∙◌, ◌+ℤ◌, ◌*ℤ◌, ℤ, to_z, of_z, w32, w64, FitsSigned, arith}
use Rattle.std.proofs.lemmas.Int.{ints, to_z-of_z, fits_signed_from_abs}
use Rattle.flac_subframe.proofs.lemmas.format.Bounds.{back}
use Rattle.flac_subframe.proofs.search.wide_products.plus.Goals as goal

widened : (z r : ℤ) → FitsSigned w32 z → r ≡ to_z w32 (of_z w32 z) → to_z w64 (of_z w64 r) ≡ z
widened z r fit e = let same : r ≡ z = e ∙ to_z-of_z w32 z fit in rw same (omega (arith, ints, fit))

pub overflow_mul-result : goal.overflow_mul-result
overflow_mul-result c =
    let one = widened c.args.coefficient c.from.result c.ranges.coefficient c.from.ensures in
    let two = widened c.args.sample c.from-2.result c.ranges.sample c.from-2.ensures in
    rw (one, two) (fits_signed_from_abs w64 (c.args.coefficient *ℤ c.args.sample) c.requires.product)

pub overflow_add-result : goal.overflow_add-result
overflow_add-result c =
    let one = widened c.args.coefficient c.from.result c.ranges.coefficient c.from.ensures in
    let two = widened c.args.sample c.from-2.result c.ranges.sample c.from-2.ensures in
    let sum : to_z w64 (of_z w64 c.args.sum) ≡ c.args.sum = to_z-of_z w64 c.args.sum c.ranges.sum in
    rw (one, two, sum, back (c.args.coefficient *ℤ c.args.sample) c.requires.product) (fits_signed_from_abs w64 (c.args.sum +ℤ (c.args.coefficient *ℤ c.args.sample)) c.requires.sum)

pub returns : goal.returns
returns c =
    let one = widened c.args.coefficient c.from.result c.ranges.coefficient c.from.ensures in
    let two = widened c.args.sample c.from-2.result c.ranges.sample c.from-2.ensures in
    let sum : to_z w64 (of_z w64 c.args.sum) ≡ c.args.sum = to_z-of_z w64 c.args.sum c.ranges.sum in
    rw (one, two, sum, back (c.args.coefficient *ℤ c.args.sample) c.requires.product) (back (c.args.sum +ℤ (c.args.coefficient *ℤ c.args.sample)) c.requires.sum)
