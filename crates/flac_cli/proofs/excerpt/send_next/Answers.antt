use Rattle.std.proofs.Common.{sym, refl, ap, ◌∙◌, arith}
use Rattle.flac_frame.specs.Viewed.{frame_of}
use Rattle.flac_reader.specs.Coming.{size_of}
use Rattle.flac_compare.proofs.Onwards.{step_stays, enters_frame}
use Rattle.flac_cli.specs.Excerpts.{samples_text}
use Rattle.flac_cli.proofs.Excerpts.{text_append, turn_frame, turn_end, turn_refusal}
use Rattle.flac_cli.proofs.excerpt.send_next.Goals as goal

pub returns-in-Err : goal.returns-in-Err
returns-in-Err g c = record {
  stays = step_stays c.args.reader.now c.step.new.self _ c.in-Err.ensures;
  met = tt;
  known = tt;
  turns = λ known. turn_refusal (samples_text c.args.form.wave c.args.form.depth) c.args.reader.now c.step.new.self c.args.span.now (g.W.Target.sent c.args.target.now) (g.W.Target.sent c.args.target.now) c.in-Err.fault c.in-Err.ensures;
  kept = omega arith;
  failed = λ e. absurd cc;
}

pub returns-in-Ok-send_rows-clause-turns : goal.returns-in-Ok-send_rows-clause-turns
returns-in-Ok-send_rows-clause-turns g c = λ known.
    turn_frame (samples_text c.args.form.wave c.args.form.depth) c.args.reader.now c.step.new.self (frame_of c.in-Some.frame) c.len.result c.args.span.now c.cut-cut.result (g.W.Target.sent c.args.target.now) (g.W.Target.sent c.send_rows.new.target)
    (text_append c.args.form.wave c.args.form.depth c.requires.depth) (enters_frame c.args.reader.now c.step.new.self 0 c.len.result _ (frame_of c.in-Some.frame) refl (c.len.ensures ∙ ap size_of c.in-Some.ensures) (sym c.in-Some.ensures) c.in-Ok.ensures)
    (sym c.in-Some.ensures) c.len.ensures c.cut-cut.ensures (c.in-Ok-send_rows.ensures.sent known)

pub returns-in-None-clause-turns : goal.returns-in-None-clause-turns
returns-in-None-clause-turns g c = λ known. turn_end (samples_text c.args.form.wave c.args.form.depth) c.args.reader.now c.step.new.self c.args.span.now (g.W.Target.sent c.args.target.now) _ (sym c.in-None.ensures) c.in-Ok.ensures
