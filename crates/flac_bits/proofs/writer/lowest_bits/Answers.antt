use Rattle.std.proofs.Common.{◌*◌, ◌-◌, ◌/◌, ◌%◌, ◌^◌, arith, ap, ◌∙◌}
use Rattle.std.specs.Int.{w64, cast_unsigned}
use Rattle.std.proofs.lemmas.Int.{to_z-of_z}
use Rattle.flac_bits.proofs.Codes.{lowest}
use Rattle.flac_bits.proofs.writer.lowest_bits.Goals as goal

pub returns : goal.returns
returns c =
    let m = 64 - c.args.n in
    ap (λ k. k * 2 ^ m % 2 ^ 64 / 2 ^ m) (c.cast_unsigned.ensures ∙ ap (cast_unsigned w64) (to_z-of_z w64 c.args.value c.ranges.value)) ∙ lowest c.args.n m c.args.value (omega (arith, c.requires)) c.ranges.value
