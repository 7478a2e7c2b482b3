use Rattle.std.proofs.Common.{arith, ◌≡◌, ◌^◌, ◌<◌, ◌↔◌, to_z, of_z, w64}
use Rattle.std.proofs.lemmas.Int.{ints}
use Rattle.flac_bits.specs.Signed.{FitsBits}
use Rattle.flac_subframe.proofs.format.numbers.fits_bits.Goals as goal

pub returns : goal.returns
returns c =
    let same : to_z w64 (of_z w64 c.args.number) ≡ c.args.number = omega (arith, ints, c.ranges.number) in
    let e : (c.offset_near.result < 2 ^ c.args.bits) ↔ FitsBits c.args.bits c.args.number = rw same at c.offset_near.ensures in
    let b = c.is_below.ensures in (λ t. e.0 (b.0 t), λ f. b.1 (e.1 f))
