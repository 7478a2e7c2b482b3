use Rattle.std.proofs.Common.{sym, ap, ◌∙◌, get_or}
use Rattle.flac_bits.specs.Bits.{unsigned}
use Rattle.flac_bits.specs.Check.{fed}
use Rattle.flac_bits.proofs.Check.{fed_byte}
use Rattle.flac_bits.proofs.crc_of_bytes.each_checked.Goals as goal

pub loop-i-preserved : goal.loop-i-preserved
loop-i-preserved c =
    let byte = get_or c.args.bytes.now c.loop-i.i 0 in
    record {
      eight = c.byte_checked-checks.ensures.eight ∙ ap (λ k. fed 8 7 k (unsigned 8 byte)) c.loop-i.invariant.eight ∙ sym (fed_byte 8 7 c.args.checks.0 c.loop-i.i c.args.bytes.now c.loop-i-test.true);
      sixteen = c.byte_checked-checks.ensures.sixteen ∙ ap (λ k. fed 16 32773 k (unsigned 8 byte)) c.loop-i.invariant.sixteen ∙ sym (fed_byte 16 32773 c.args.checks.1 c.loop-i.i c.args.bytes.now c.loop-i-test.true);
    }
