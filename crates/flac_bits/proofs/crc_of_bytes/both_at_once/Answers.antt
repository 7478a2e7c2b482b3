use Rattle.std.proofs.Common.{ℕ, ◌+◌, ◌*◌, ◌/◌, ◌-◌, ap, ◌∙◌, length, arith}
use Rattle.std.specs.List.{slice_range}
use Rattle.flac_bits.specs.Bits.{bits_of}
use Rattle.flac_bits.specs.Check.{fed}
use Rattle.flac_bits.proofs.Eights.{fed_two_parts}
use Rattle.flac_bits.proofs.crc_of_bytes.both_at_once.Goals as goal

pub returns-clause-eight : goal.returns-clause-eight
returns-clause-eight c =
    let bytes = c.args.bytes.now in
    let most : ℕ = (length bytes - 2) / 127 * 127 + 2 in
    c.both_by_eights-2.ensures.eight ∙ ap (λ k. fed 8 7 k (bits_of (slice_range bytes most (length bytes)))) c.both_divided-checks.ensures.eight ∙ fed_two_parts 8 7 c.args.checks.0 most bytes (omega (arith, c.if-bytes-lt640.false))

pub returns-clause-sixteen : goal.returns-clause-sixteen
returns-clause-sixteen c =
    let bytes = c.args.bytes.now in
    let most : ℕ = (length bytes - 2) / 127 * 127 + 2 in
    c.both_by_eights-2.ensures.sixteen ∙ ap (λ k. fed 16 32773 k (bits_of (slice_range bytes most (length bytes)))) c.both_divided-checks.ensures.sixteen ∙ fed_two_parts 16 32773 c.args.checks.1 most bytes (omega (arith, c.if-bytes-lt640.false))
