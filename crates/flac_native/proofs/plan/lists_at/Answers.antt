use Rattle.std.proofs.Common.{◌∙◌, ap}
use Rattle.flac_native.specs.Given.{plane_lists}
use Rattle.flac_native.proofs.Planned.{lists_in, lists_past}
use Rattle.flac_native.proofs.plan.lists_at.Goals as goal

pub returns-then-at-frames : goal.returns-then-at-frames
returns-then-at-frames c = ap plane_lists c.as_slice.ensures.value ∙ lists_in c.args.frames.now c.args.number _ c.if-at-frames.true c.index-frames-at.is

pub returns : goal.returns
returns c = lists_past c.args.frames.now c.args.number c.if-at-frames.false
