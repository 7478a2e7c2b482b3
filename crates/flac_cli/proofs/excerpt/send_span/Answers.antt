use Rattle.std.proofs.Common.{sym, ◌∙◌}
use Rattle.flac_compare.proofs.Onwards.{met_both}
use Rattle.flac_cli.specs.Excerpts.{samples_text}
use Rattle.flac_cli.proofs.Excerpts.{text_nothing, span_start, span_turn, span_done, span_over, span_failed, on_ok}
use Rattle.flac_cli.proofs.excerpt.send_span.Goals as goal

pub frames-init : goal.frames-init
frames-init g c = span_start g.W.Target (samples_text c.args.form.wave c.args.form.depth) c.args.reader.now c.args.span c.args.target.now

pub frames-preserved : goal.frames-preserved
frames-preserved g c =
    let told = rw c.in-Ok-true.field-0-test at c.in-Ok-true.ensures in
    span_turn g.W.Target (samples_text c.args.form.wave c.args.form.depth) c.args.reader.now c.frames.reader c.send_next.new.reader c.args.span c.frames.span c.send_next.new.span c.args.target.now c.frames.target c.send_next.new.target
    c.frames.invariant told.stays told.met told.known told.kept told.turns

pub returns-then-is_done-clause-says : goal.returns-then-is_done-clause-says
returns-then-is_done-clause-says g c =
    span_done g.W.Target (samples_text c.args.form.wave c.args.form.depth) (text_nothing c.args.form.wave c.args.form.depth c.requires) c.args.reader.now c.frames.reader c.args.span c.frames.span c.args.target.now c.frames.target c.frames.invariant (sym c.is_done.ensures ∙ c.if-is_done.true)

pub returns-in-Ok-false-clause-says : goal.returns-in-Ok-false-clause-says
returns-in-Ok-false-clause-says g c =
    let told = rw c.in-Ok-false.field-0-test at c.in-Ok-false.ensures in
    span_over g.W.Target (samples_text c.args.form.wave c.args.form.depth) (text_nothing c.args.form.wave c.args.form.depth c.requires) c.args.reader.now c.frames.reader c.send_next.new.reader c.args.span c.frames.span c.send_next.new.span c.args.target.now c.frames.target c.send_next.new.target c.ended.result
    c.frames.invariant told.turns c.ended.ensures

pub returns-in-Err-clause-says : goal.returns-in-Err-clause-says
returns-in-Err-clause-says g c =
    span_failed g.W.Target (samples_text c.args.form.wave c.args.form.depth) c.args.reader.now c.frames.reader c.send_next.new.reader c.args.span c.frames.span c.send_next.new.span c.args.target.now c.frames.target c.send_next.new.target c.in-Err.fault
    c.frames.invariant (sym c.is_done.ensures ∙ c.if-is_done.false) c.in-Err.ensures.turns

pub returns-then-is_done-clause-met : goal.returns-then-is_done-clause-met
returns-then-is_done-clause-met g c = c.frames.invariant.met

pub returns-in-Ok-false-clause-met : goal.returns-in-Ok-false-clause-met
returns-in-Ok-false-clause-met g c =
    let told = rw c.in-Ok-false.field-0-test at c.in-Ok-false.ensures in
    on_ok _ c.ended.result (met_both c.args.reader.now c.frames.reader c.send_next.new.reader c.frames.invariant.met told.met)
