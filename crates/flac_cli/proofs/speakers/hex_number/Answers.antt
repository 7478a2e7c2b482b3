use Rattle.std.proofs.Common.{◌∙◌, ◌+◌, refl, sym, ap, drop, arith}
use Rattle.flac_cli.specs.Speakers.{hex_after}
use Rattle.flac_cli.proofs.Waved.{hex_next}
use Rattle.flac_cli.proofs.speakers.hex_number.Goals as goal

pub loop-digit-preserved : goal.loop-digit-preserved
loop-digit-preserved c =
    let ds = c.args.digits.now in
    let i = c.loop-digit.digit-index in
    let n = c.loop-digit.number in
    c.loop-digit.invariant ∙ (hex_next ds i n _ c.in-Some.value (omega arith) refl (sym c.hex_value.ensures.value ∙ c.in-Some.is)
    ∙ ap (λ k. hex_after k (drop (i + 1) ds)) (omega arith))
