use Rattle.std.proofs.Common.{◌-◌, subst, sym, ap, arith, Err}
use Rattle.flac_frame.specs.Chosen.{IsChoiceByPlane}
use Rattle.flac_frame.specs.Encoding.{block_of}
use Rattle.flac_frame.specs.PlaneLists.{Lists}
use Rattle.flac_subframe.specs.search.Capacity.{Capacity}
use Rattle.flac_native.proofs.Planned.{fit, orders_at, partition_of}
use Rattle.flac_native.proofs.Gathered.{choice_back}
use Rattle.flac_native.proofs.Spelled.{chosen_of, came_out}
use Rattle.flac_native.proofs.chosen_frames.write_chosen.Goals as goal

pub range-range-requires-clause-fits : goal.range-range-requires-clause-fits
range-range-requires-clause-fits g c = c.requires.ready.fits

pub range-range-requires-clause-few : goal.range-range-requires-clause-few
range-range-requires-clause-few g c = c.requires.ready.few

pub write_frame_by_plane-requires-clause-some : goal.write_frame_by_plane-requires-clause-some
write_frame_by_plane-requires-clause-some g c = c.range-range.ensures.range.some

pub write_frame_by_plane-requires-clause-within : goal.write_frame_by_plane-requires-clause-within
write_frame_by_plane-requires-clause-within g c = c.range-range.ensures.range.within

pub write_frame_by_plane-requires-clause-room : goal.write_frame_by_plane-requires-clause-room
write_frame_by_plane-requires-clause-room g c = omega (arith, c.range-range.ensures.range.room, ap (λ (x : Capacity). x.block) c.requires.ready.buffers)

pub write_frame_by_plane-requires-clause-chosen : goal.write_frame_by_plane-requires-clause-chosen
write_frame_by_plane-requires-clause-chosen g c =
    let is = c.requires.ready.chosen c.args.number c.index-choices-at.result (omega arith) c.index-choices-at.is in
    let p = c.args.plan.now in
    let a = c.args.audio.now in
    let r = c.range-range.result in
    let n = r.end - r.start in
    let k = c.range-range.ensures.range in
    subst (λ (l : Lists). IsChoiceByPlane l a n c.args.number (block_of r.start n a.channels) c.index-choices-at.result) (sym c.predictors_at-predictors.ensures.tried) (choice_back p a c.args.number r.start n _ k.start k.size is.chosen)

pub write_frame_by_plane-requires-clause-places : goal.write_frame_by_plane-requires-clause-places
write_frame_by_plane-requires-clause-places g c = (c.requires.ready.chosen c.args.number c.index-choices-at.result (omega arith) c.index-choices-at.is).places

pub encode_frame_by_plane-requires-clause-some : goal.encode_frame_by_plane-requires-clause-some
encode_frame_by_plane-requires-clause-some g c = c.range-range.ensures.range.some

pub encode_frame_by_plane-requires-clause-within : goal.encode_frame_by_plane-requires-clause-within
encode_frame_by_plane-requires-clause-within g c = c.range-range.ensures.range.within

pub encode_frame_by_plane-requires-clause-room : goal.encode_frame_by_plane-requires-clause-room
encode_frame_by_plane-requires-clause-room g c = omega (arith, c.range-range.ensures.range.room, ap (λ (x : Capacity). x.block) c.requires.ready.buffers)

pub encode_frame_by_plane-requires-clause-number : goal.encode_frame_by_plane-requires-clause-number
encode_frame_by_plane-requires-clause-number g c = c.range-range.ensures.range.few

pub encode_frame_by_plane-requires-clause-partition : goal.encode_frame_by_plane-requires-clause-partition
encode_frame_by_plane-requires-clause-partition g c = partition_of c.args.plan.now c.args.audio.now _ (fit c.args.plan.now c.args.audio.now c.requires.ready.fits) c.requires.ready.buffers

pub encode_frame_by_plane-requires-clause-orders : goal.encode_frame_by_plane-requires-clause-orders
encode_frame_by_plane-requires-clause-orders g c =
    let p = c.args.plan.now in
    let a = c.args.audio.now in
    orders_at p a _ (fit p a c.requires.ready.fits) c.predictors_at-predictors.ensures.orders

pub returns-then-at-choices-clause-wrote : goal.returns-then-at-choices-clause-wrote
returns-then-at-choices-clause-wrote g c =
    let r = c.range-range in
    chosen_of c.args.plan.now c.args.audio.now c.args.number r.result.start r.result.end _ c.args.writer.now c.write_frame_by_plane.new.writer _ r.ensures.range c.predictors_at-predictors.ensures.tried c.write_frame_by_plane.ensures.wrote

pub returns-in-Ok-clause-wrote : goal.returns-in-Ok-clause-wrote
returns-in-Ok-clause-wrote g c =
    let r = c.range-range in
    chosen_of c.args.plan.now c.args.audio.now c.args.number r.result.start r.result.end _ c.args.writer.now c.encode_frame_by_plane.new.writer came_out r.ensures.range c.predictors_at-predictors.ensures.tried c.in-Ok.ensures.wrote

pub returns-in-Err-clause-wrote : goal.returns-in-Err-clause-wrote
returns-in-Err-clause-wrote g c =
    let r = c.range-range in
    chosen_of c.args.plan.now c.args.audio.now c.args.number r.result.start r.result.end _ c.args.writer.now c.encode_frame_by_plane.new.writer (Err c.in-Err.why) r.ensures.range c.predictors_at-predictors.ensures.tried c.in-Err.ensures.wrote
