use Rattle.std.proofs.Common.{◌∙◌}
use Rattle.flac_predict.specs.Found.{IsFoundAfter}
use Rattle.flac_predict.proofs.Lists.{items, all_pushed, one_more}
use Rattle.flac_predict.proofs.finder.Finder.lists.Goals as goal

pub loop-channel-preserved : goal.loop-channel-preserved
loop-channel-preserved c =
    let old = c.loop-channel.lists.items in
    let new = c.push.new.self.items in
    record {
      after = all_pushed items (IsFoundAfter c.args.given.now) old new _ c.in_ok-push.ensures.items c.loop-channel.invariant.after c.in_ok-list.ensures.after;
      many = one_more old new _ c.loop-channel.channel c.in_ok-push.ensures.items c.loop-channel.invariant.many;
      room = c.sums_of_one-windows.ensures ∙ c.loop-channel.invariant.room;
    }
