use Rattle.std.proofs.Common.{◌∙◌, ◌+◌, ◌-◌, ℤ, List, Vec, Global, map, get_or, refl, ap, arith}
use Rattle.std.proofs.lemmas.Result.{on_ok_weaker}
use Rattle.flac_rescue.specs.Gaps.{last_of}
use Rattle.flac_rescue.proofs.Lists.{rise_at, zero_frame}
use Rattle.flac_rescue.proofs.Salvaging.{salvage_more, salvage_ends, end_fits}
use Rattle.flac_rescue.proofs.salvage.add_frames.Goals as goal

abbrev items : List (Vec ℤ Global) → List (List ℤ)
items vs = map (λ (v : Vec ℤ Global). v.items) vs

pub loop-frame-preserved : goal.loop-frame-preserved
loop-frame-preserved c =
    let i = c.loop-frame.invariant in
    let n = c.loop-frame.frame-index in
    let w = get_or c.args.kept.now n zero_frame in
    record {
      rise = (rise_at _ c.loop-frame.from n c.args.kept.now (omega arith) i.rise).1.1;
      channels = c.add_frame.ensures.room.0 ∙ i.channels;
      block = c.add_frame.ensures.room.1 ∙ i.block;
      so_far = salvage_more c.args.info.now c.args.bytes.now c.args.silence c.args.info.now.total (items c.args.channels.now) c.args.kept.now n c.loop-frame.from (w.first + w.size)
          (items c.loop-frame.channels) (items c.add_missing.new.channels) (items c.add_frame.new.channels) (omega arith) i.so_far c.in_ok-add_missing.ensures c.in_ok-add_frame.ensures.added refl;
    }

pub returns : goal.returns
returns c =
    let n = c.loop-frame.frame-index in
    let from = c.loop-frame.from in
    let rest = c.saturating_sub.ensures ∙ ap (λ k. k - from) (c.last_of-end.ensures ∙ ap (λ t. last_of t from) c.total-total.ensures.value) in
    on_ok_weaker c.add_missing-2.result
    (λ e. λ frames held. salvage_ends c.args.info.now c.args.bytes.now c.args.silence c.args.info.now.total (items c.args.channels.now) c.args.kept.now n from c.saturating_sub.result
    (items c.loop-frame.channels) (items c.add_missing-2.new.channels) (omega arith) c.loop-frame.invariant.so_far rest e frames held)
    c.add_missing-2.ensures

pub overflow_add-from : goal.overflow_add-from
overflow_add-from c = record { fits = end_fits c.args.info.now.total c.loop-frame.from c.loop-frame.frame-index c.args.kept.now (omega (arith, c.total-total.type_inv, c.total-total.ensures.value)) (omega arith) c.loop-frame.invariant.rise }
