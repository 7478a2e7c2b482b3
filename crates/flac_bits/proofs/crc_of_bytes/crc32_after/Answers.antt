use Rattle.std.proofs.Common.{◌+◌, ◌*◌, ◌/◌, sym, ap, ◌∙◌, length, arith}
use Rattle.std.specs.List.{slice_range}
use Rattle.flac_bits.specs.Bits.{bits_of}
use Rattle.flac_bits.specs.Check.{fed}
use Rattle.flac_bits.proofs.Eights.{fed_part, fed_rest}
use Rattle.flac_bits.proofs.crc_of_bytes.crc32_after.Goals as goal

pub loop-i-preserved : goal.loop-i-preserved
loop-i-preserved c =
    let i = c.loop-i.i in
    let bytes = c.args.bytes.now in
    c.crc32_divided-check.ensures ∙ ap (λ k. fed 32 79764919 k (bits_of (slice_range bytes (8192 * i) (8192 * i + 8192)))) c.loop-i.invariant ∙ sym (fed_part 32 79764919 c.args.check 8192 i bytes (omega arith) (omega (arith, c.loop-i-test.true)))

pub returns : goal.returns
returns c =
    let bytes = c.args.bytes.now in
    c.crc32_at_once.ensures ∙ ap (λ k. fed 32 79764919 k (bits_of (slice_range bytes (8192 * (length bytes / 8192)) (length bytes)))) c.loop-i.invariant ∙ fed_rest 32 79764919 c.args.check 8192 c.loop-i.i bytes (omega (arith, c.loop-i-test.false, c.loop-i.auto.i-end))
