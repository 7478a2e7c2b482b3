use Rattle.std.proofs.Common.{sym}
use Rattle.flac_frame.proofs.Sounds.{differ, large, faultless}
use Rattle.flac_frame.proofs.samples.samples_fault.Goals as goal

pub returns-then-not-are_long : goal.returns-then-not-are_long
returns-then-not-are_long c = sym (differ (λ v. v.now) c.args.channels.now c.args.bits c.first_len.result c.are_long.result c.are_long.ensures c.first_len.ensures c.if-not-are_long.true)

pub returns-then-not-each_small : goal.returns-then-not-each_small
returns-then-not-each_small c =
    sym (large (λ v. v.now) c.args.channels.now c.args.bits c.first_len.result c.are_long.result c.are_long.ensures c.first_len.ensures c.if-not-are_long.false c.each_small.result c.each_small.ensures c.if-not-each_small.true)

pub returns : goal.returns
returns c =
    sym (faultless (λ v. v.now) c.args.channels.now c.args.bits c.first_len.result c.are_long.result c.are_long.ensures c.first_len.ensures c.if-not-are_long.false c.each_small.result c.each_small.ensures c.if-not-each_small.false)
