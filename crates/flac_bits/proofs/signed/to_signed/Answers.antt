use Rattle.std.proofs.Common.{arith}
use Rattle.flac_bits.proofs.Signs.{all_ones, half_or_more, rest_fits, high_value, high_fits}
use Rattle.flac_bits.proofs.signed.to_signed.Goals as goal

pub overflow_sub-result-else-value-n : goal.overflow_sub-result-else-value-n
overflow_sub-result-else-value-n c = rw (all_ones c.args.n c.requires.few) (omega (arith, c.requires.small))

pub overflow_cast-result-else-value-n-2 : goal.overflow_cast-result-else-value-n-2
overflow_cast-result-else-value-n-2 c =
    let le = half_or_more c.args.n c.args.value c.requires.some c.requires.few c.if-value-n.false in
    rw (all_ones c.args.n c.requires.few) (rest_fits c.args.n c.args.value c.requires.some c.requires.few le c.requires.small)

pub returns-else-value-n-clause-value : goal.returns-else-value-n-clause-value
returns-else-value-n-clause-value c =
    let le = half_or_more c.args.n c.args.value c.requires.some c.requires.few c.if-value-n.false in
    rw (all_ones c.args.n c.requires.few) (high_value c.args.n c.args.value c.requires.some c.requires.few le c.requires.small)

pub returns-else-value-n-clause-fits : goal.returns-else-value-n-clause-fits
returns-else-value-n-clause-fits c =
    let le = half_or_more c.args.n c.args.value c.requires.some c.requires.few c.if-value-n.false in
    rw (all_ones c.args.n c.requires.few) (high_fits c.args.n c.args.value c.requires.some c.requires.few le c.requires.small)
