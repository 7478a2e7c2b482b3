use Rattle.std.proofs.Common.{arith}
use Rattle.std.proofs.lemmas.Nat.{pow_pos}
use Rattle.std.proofs.lemmas.Bool.{le-leb, leb-true}
use Rattle.flac_bits.proofs.Signs.{all_ones}
use Rattle.flac_subframe.proofs.format.numbers.is_below.Goals as goal

pub returns : goal.returns
returns c =
    let bits = c.args.bits in
    rw (all_ones bits (omega arith)) (
      λ t. omega (arith, leb-true _ _ t, pow_pos bits),
      λ f. le-leb _ _ (omega (arith, f)),
    )
