use Rattle.std.proofs.Common.{◌∙◌, All}
use Rattle.flac_frame.specs.Frame.{limits_at}
use Rattle.flac_native.specs.Given.{plane_lists}
use Rattle.flac_subframe.specs.format.Handed.{AreWithin}
use Rattle.flac_predict.specs.Found.{IsPrefixOf}
use Rattle.flac_predict.proofs.Lists.{lists_items, all_pushed, one_more, all_begin, all_within}
use Rattle.flac_predict.proofs.found.found_in.Goals as goal

pub loop-number-preserved : goal.loop-number-preserved
loop-number-preserved c =
    let profile = c.args.audio.now.profile in
    let rate = c.args.audio.now.rate in
    let given = c.args.given.now in
    let old = c.loop-number.frames.items in
    let new = c.push.new.self.items in
    let lists = plane_lists c.in_ok-lists.lists.items in
    let so = c.loop-number.invariant in
    let after = c.in_ok-lists.ensures.after in
    record {
      room = c.in_ok-lists.ensures.room ∙ so.room;
      many = one_more old new _ c.loop-number.number c.in_ok-push.ensures.items so.many;
      begins = all_pushed lists_items (All (IsPrefixOf given)) old new _ c.in_ok-push.ensures.items so.begins (all_begin given lists after);
      orders = all_pushed lists_items (All (AreWithin (limits_at profile rate).linear)) old new _ c.in_ok-push.ensures.items so.orders (all_within profile rate given lists c.requires.within after);
    }
