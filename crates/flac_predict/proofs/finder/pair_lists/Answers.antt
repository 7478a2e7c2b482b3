use Rattle.flac_predict.specs.Found.{IsFoundAfter}
use Rattle.flac_predict.proofs.Lists.{items, all_pushed, one_more}
use Rattle.flac_predict.proofs.finder.pair_lists.Goals as goal

pub loop-plane-preserved : goal.loop-plane-preserved
loop-plane-preserved c =
    let old = c.loop-plane.lists.items in
    let new = c.push.new.self.items in
    record {
      after = all_pushed items (IsFoundAfter c.args.given.now) old new _ c.in_ok-push.ensures.items c.loop-plane.invariant.after c.in_ok-list.ensures.after;
      many = one_more old new _ c.loop-plane.plane c.in_ok-push.ensures.items c.loop-plane.invariant.many;
    }
