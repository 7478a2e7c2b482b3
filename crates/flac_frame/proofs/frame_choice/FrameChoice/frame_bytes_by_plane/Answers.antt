use Rattle.std.proofs.Common.{◌∙◌, sym, arith}
use Rattle.flac_frame.proofs.Counted.{cost_below, frame_counted}
use Rattle.flac_frame.proofs.frame_choice.FrameChoice.frame_bytes_by_plane.Goals as goal

pub header-header-requires-clause-chosen : goal.header-header-requires-clause-chosen
header-header-requires-clause-chosen c = let is = c.requires.chosen.2 in (is.form.header, is.header)

pub overflow_add-result : goal.overflow_add-result
overflow_add-result c = let is = c.requires.chosen.2 in omega (arith, is.cost, cost_below c.args.audio.now.bits is.form, is.short)

pub overflow_add-result-2 : goal.overflow_add-result-2
overflow_add-result-2 c = let is = c.requires.chosen.2 in omega (arith, is.cost, cost_below c.args.audio.now.bits is.form, is.short, c.bytes.ensures.few)

pub overflow_add-result-3 : goal.overflow_add-result-3
overflow_add-result-3 c = let is = c.requires.chosen.2 in omega (arith, is.cost, cost_below c.args.audio.now.bits is.form, is.short, c.bytes.ensures.few)

pub returns-clause-bytes : goal.returns-clause-bytes
returns-clause-bytes c = λ lists block is. frame_counted c.args.audio.now.bits c.args.self.now.bits c.bytes.result c.header-header.result is.form (sym c.header-header.ensures ∙ is.header) c.bytes.ensures.bytes is.cost

pub returns-clause-few : goal.returns-clause-few
returns-clause-few c =
    let is = c.requires.chosen.2 in
    let counted = frame_counted c.args.audio.now.bits c.args.self.now.bits c.bytes.result c.header-header.result is.form (sym c.header-header.ensures ∙ is.header) c.bytes.ensures.bytes is.cost in
    (omega arith, omega (arith, counted, is.short))
