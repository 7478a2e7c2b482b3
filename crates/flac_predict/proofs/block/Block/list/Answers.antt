use Rattle.flac_predict.proofs.Lists.{found_none, found_more}
use Rattle.flac_predict.proofs.block.Block.list.Goals as goal

pub loop-sums-init : goal.loop-sums-init
loop-sums-init c = found_none c.args.given.now c.in_ok-list.list.items c.in_ok-list.ensures.same

pub loop-sums-preserved : goal.loop-sums-preserved
loop-sums-preserved c = found_more c.args.given.now c.loop-sums.list.items c.push_likely.new.list.items c.loop-sums.invariant c.push_likely.ensures.more
