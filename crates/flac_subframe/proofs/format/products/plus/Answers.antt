use Rattle.std.proofs.Common.{◌≡◌, ◌+ℤ◌, ◌*ℤ◌, to_z, of_z, w32}
use Rattle.std.proofs.lemmas.Int.{to_z-of_z, fits_signed_from_abs}
use Rattle.flac_subframe.proofs.lemmas.format.Sizes.{back_in}
use Rattle.flac_subframe.proofs.format.products.plus.Goals as goal

pub overflow_mul-result : goal.overflow_mul-result
overflow_mul-result c =
    let one : to_z w32 (of_z w32 c.args.coefficient) ≡ c.args.coefficient = to_z-of_z w32 c.args.coefficient c.ranges.coefficient in
    let two : to_z w32 (of_z w32 c.args.sample) ≡ c.args.sample = to_z-of_z w32 c.args.sample c.ranges.sample in
    rw (one, two) (fits_signed_from_abs w32 (c.args.coefficient *ℤ c.args.sample) c.requires.product)

pub overflow_add-result : goal.overflow_add-result
overflow_add-result c =
    let one : to_z w32 (of_z w32 c.args.coefficient) ≡ c.args.coefficient = to_z-of_z w32 c.args.coefficient c.ranges.coefficient in
    let two : to_z w32 (of_z w32 c.args.sample) ≡ c.args.sample = to_z-of_z w32 c.args.sample c.ranges.sample in
    let sum : to_z w32 (of_z w32 c.args.sum) ≡ c.args.sum = to_z-of_z w32 c.args.sum c.ranges.sum in
    rw (one, two, sum, back_in w32 (c.args.coefficient *ℤ c.args.sample) c.requires.product) (fits_signed_from_abs w32 (c.args.sum +ℤ (c.args.coefficient *ℤ c.args.sample)) c.requires.sum)

pub returns : goal.returns
returns c =
    let one : to_z w32 (of_z w32 c.args.coefficient) ≡ c.args.coefficient = to_z-of_z w32 c.args.coefficient c.ranges.coefficient in
    let two : to_z w32 (of_z w32 c.args.sample) ≡ c.args.sample = to_z-of_z w32 c.args.sample c.ranges.sample in
    let sum : to_z w32 (of_z w32 c.args.sum) ≡ c.args.sum = to_z-of_z w32 c.args.sum c.ranges.sum in
    rw (one, two, sum, back_in w32 (c.args.coefficient *ℤ c.args.sample) c.requires.product) (back_in w32 (c.args.sum +ℤ (c.args.coefficient *ℤ c.args.sample)) c.requires.sum)
