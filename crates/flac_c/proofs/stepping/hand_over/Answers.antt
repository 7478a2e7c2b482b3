use Rattle.std.proofs.Common.{arith}
use Rattle.flac_frame.specs.Viewed.{frame_of}
use Rattle.flac_c.proofs.HandedOver.{handed, not_handed, few_samples}
use Rattle.flac_c.proofs.stepping.hand_over.Goals as goal

pub overflow_mul-count : goal.overflow_mul-count
overflow_mul-count c =
    let v = c.args.frame.now in
    let few = few_samples c.channels.result c.len.result v.channels v.block v.samples.now c.channels.ensures c.len.ensures v.few v.short in
    omega (arith, few)

pub returns-then-count-out : goal.returns-then-count-out
returns-then-count-out c =
    handed (frame_of c.args.frame.now) c.args.end c.args.cursor.now c.args.out.now c.channels.result c.len.result c.channels.ensures c.len.ensures c.passed.result c.interleave-all.new.out c.interleave-all.result c.if-count-out.true
    c.interleave-all.ensures.count c.interleave-all.ensures.samples c.interleave-all.ensures.rest c.passed.ensures

pub returns-else-count-out : goal.returns-else-count-out
returns-else-count-out c =
    not_handed (frame_of c.args.frame.now) c.args.end c.args.cursor.now c.args.out.now c.channels.result c.len.result c.channels.ensures c.len.ensures (omega (arith, c.if-count-out.false))
