use Rattle.std.proofs.Common.{◌≡◌, true, ap, ◌∙◌}
use Rattle.std.specs.Prelude.{option_copied}
use Rattle.flac_reader.specs.Kept.{first_comments}
use Rattle.flac_cli.specs.Excerpts.{samples_text, format_for, file_text}
use Rattle.flac_cli.proofs.Excerpts.{fault_said, wave_said, zero_failed, on_ok}
use Rattle.flac_cli.proofs.Waved.{kept_more}
use Rattle.flac_cli.proofs.excerpt.send_wave.Goals as goal

pub returns-in-Err-send_span-clause-says : goal.returns-in-Err-send_span-clause-says
returns-in-Err-send_span-clause-says g c = λ calm known rows end q.
    let info = c.args.reader.now.info in
    let sent = g.W.Target.sent in
    fault_said (samples_text true c.depth-depth.result) (file_text true info (first_comments c.args.reader.now.blocks.items) c.args.total) c.args.span rows end (sent c.args.target.now) (sent c.send_head.new.target) (sent c.send_span.new.target) (sent c.send_span.new.target) c.in-Err-send_span.fault
    (c.in-Err-send_span.ensures.says calm (c.in-Ok.ensures.known known) rows end q)

pub returns-clause-says : goal.returns-clause-says
returns-clause-says g c = λ calm known rows end q.
    let info = c.args.reader.now.info in
    let comments = first_comments c.args.reader.now.blocks.items in
    let sent = g.W.Target.sent in
    let begun = c.in-Ok.ensures.known known in
    wave_said (g.W.Target.known c.send_span.new.target ≡ true) (c.in-Ok-send_span.ensures.known begun) c.format_for-format.result c.args.total c.depth-depth.result c.row.result info comments c.args.span rows end (sent c.args.target.now) (sent c.send_head.new.target) (sent c.send_span.new.target) (sent c.send_zero.new.target) c.send_zero.result
    (c.format_for-format.ensures.format ∙ ap (λ i. format_for i (option_copied c.comments.result)) c.info-2.ensures ∙ ap (λ m. format_for info m) c.comments.ensures)
    (c.depth-depth.ensures.value ∙ ap (λ i. i.depth) c.info.ensures)
    c.row.ensures
    (c.in-Ok.ensures.sent known)
    (c.in-Ok-send_span.ensures.says calm begun rows end q)
    c.send_zero.ensures.sent c.send_zero.ensures.outside

pub returns-clause-failed : goal.returns-clause-failed
returns-clause-failed g c = zero_failed _ _ c.send_zero.result _ _ _ (λ known. c.in-Ok-send_span.ensures.known (c.in-Ok.ensures.known known)) (kept_more _ _ _ c.in-Ok.ensures.kept c.in-Ok-send_span.ensures.kept) c.send_zero.ensures.failed

pub returns-clause-met : goal.returns-clause-met
returns-clause-met g c = on_ok _ c.send_zero.result c.in-Ok-send_span.ensures.met
