use Rattle.std.proofs.Common.{rules, below_more, ◌∙◌, arith}
use Rattle.std.proofs.lemmas.List.{get_or-set_same, get_or-set_other}
use Rattle.flac_bits.proofs.crc_8_16_division.put_rest.Goals as goal

pub loop-j-preserved : goal.loop-j-preserved
loop-j-preserved c =
    let i = c.loop-j.j in
    let rest = c.loop-j.rest in
    let v = c.with_lower_terms.result in
    below_more _ i (λ k lt. get_or-set_other rest i k v 0 (λ e. omega (arith, e, lt)) ∙ c.loop-j.invariant k lt)
    (get_or-set_same rest i v 0 (search rules) ∙ c.with_lower_terms.ensures)

pub returns : goal.returns
returns c = λ j lt. c.loop-j.invariant j (omega (arith, c.loop-j-test.false, lt))
