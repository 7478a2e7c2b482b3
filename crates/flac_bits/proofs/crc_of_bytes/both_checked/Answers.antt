use Rattle.std.proofs.Common.{◌+◌, ◌*◌, ◌/◌, sym, ap, ◌∙◌, length, arith}
use Rattle.std.specs.List.{slice_range}
use Rattle.flac_bits.specs.Bits.{bits_of}
use Rattle.flac_bits.specs.Check.{fed}
use Rattle.flac_bits.proofs.Eights.{fed_part, fed_rest}
use Rattle.flac_bits.proofs.crc_of_bytes.both_checked.Goals as goal

pub loop-i-preserved : goal.loop-i-preserved
loop-i-preserved c =
    let i = c.loop-i.i in
    let bytes = c.args.bytes.now in
    record {
      eight = c.both_divided-checks.ensures.eight ∙ ap (λ k. fed 8 7 k (bits_of (slice_range bytes (4066 * i) (4066 * i + 4066)))) c.loop-i.invariant.eight ∙ sym (fed_part 8 7 c.args.check8 4066 i bytes (omega arith) (omega (arith, c.loop-i-test.true)));
      sixteen = c.both_divided-checks.ensures.sixteen ∙ ap (λ k. fed 16 32773 k (bits_of (slice_range bytes (4066 * i) (4066 * i + 4066)))) c.loop-i.invariant.sixteen ∙ sym (fed_part 16 32773 c.args.check16 4066 i bytes (omega arith) (omega (arith, c.loop-i-test.true)));
    }

pub returns-clause-eight : goal.returns-clause-eight
returns-clause-eight c =
    let bytes = c.args.bytes.now in
    c.both_at_once.ensures.eight ∙ ap (λ k. fed 8 7 k (bits_of (slice_range bytes (4066 * (length bytes / 4066)) (length bytes)))) c.loop-i.invariant.eight ∙ fed_rest 8 7 c.args.check8 4066 c.loop-i.i bytes (omega (arith, c.loop-i-test.false, c.loop-i.auto.i-end))

pub returns-clause-sixteen : goal.returns-clause-sixteen
returns-clause-sixteen c =
    let bytes = c.args.bytes.now in
    c.both_at_once.ensures.sixteen ∙ ap (λ k. fed 16 32773 k (bits_of (slice_range bytes (4066 * (length bytes / 4066)) (length bytes)))) c.loop-i.invariant.sixteen ∙ fed_rest 16 32773 c.args.check16 4066 c.loop-i.i bytes (omega (arith, c.loop-i-test.false, c.loop-i.auto.i-end))
