use Rattle.std.proofs.Common.{sym, ap, ◌∙◌, bit_xor, arith}
use Rattle.flac_bits.specs.inner.Divided.{value_at, mixed_at, lower_32}
use Rattle.flac_bits.proofs.Dividing.{divided_more}
use Rattle.flac_bits.proofs.crc_32_division.divide.Goals as goal

pub loop-i-preserved : goal.loop-i-preserved
loop-i-preserved c = λ x same so.
    let i = c.loop-i.i in
    let q = c.loop-i.quotient in
    divided_more 300 155 i c.with_lower_terms.result lower_32 x q (omega arith) (omega arith, (omega arith, (omega arith, (omega arith, 0)))) (omega (arith, c.loop-i.auto.quotient, c.loop-i-test.true, c.requires.room)) (c.loop-i.invariant x same so)
    (c.with_lower_terms.ensures ∙ ap (λ b. bit_xor b (mixed_at lower_32 (value_at q) i)) (sym (same i (omega arith) (omega (arith, c.loop-i-test.true)))))
