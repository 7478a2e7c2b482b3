use Rattle.std.proofs.Common.{arith}
use Rattle.flac_rescue.proofs.Lists.{gap_more, gap_ends, within_at, rise_at}
use Rattle.flac_rescue.proofs.missing.gaps.Goals as goal

pub loop-frame-preserved : goal.loop-frame-preserved
loop-frame-preserved c =
    let i = c.loop-frame.invariant in
    record {
      so_far = gap_more c.args.total c.args.end c.args.start c.loop-frame.frame-index c.loop-frame.at c.loop-frame.first c.args.kept.now c.loop-frame.found.items c.push.new.self.items (omega arith) i.so_far c.in_ok-push.ensures.items;
      within = (within_at c.args.end c.loop-frame.frame-index c.args.kept.now (omega arith) i.within).1;
      rise = (rise_at _ c.loop-frame.first c.loop-frame.frame-index c.args.kept.now (omega arith) i.rise).1.1;
    }

pub returns : goal.returns
returns c = gap_ends c.args.total c.args.end c.args.start c.loop-frame.frame-index c.loop-frame.at c.loop-frame.first c.args.kept.now c.loop-frame.found.items c.push-2.new.self.items c.last_of-next.result (omega arith) c.loop-frame.invariant.so_far c.in_ok-push-2.ensures.items c.last_of-next.ensures
