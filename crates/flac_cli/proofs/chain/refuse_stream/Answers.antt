use Rattle.std.proofs.Common.{◌≡◌, ◌++◌, Some, nat_eq, refl, sym, ap, ◌∙◌}
use Rattle.flac_bits.specs.Reasons.{text_of}
use Rattle.flac_cli.specs.Chains.{numbered}
use Rattle.flac_cli.specs.Lined.{text_at}
use Rattle.flac_cli.specs.Outcomes.{reason_text}
use Rattle.flac_cli.specs.Reports.{fault_line}
use Rattle.flac_cli.proofs.ChainsRead.{first_path, later_path, not_first}
use Rattle.flac_cli.proofs.Reported.{line_sent, reason_placed}
use Rattle.flac_cli.proofs.chain.refuse_stream.Goals as goal

pub returns-then-stream-eq0-clause-line : goal.returns-then-stream-eq0-clause-line
returns-then-stream-eq0-clause-line g c = λ known same.
    let line = c.refuse.ensures.line known same in
    let path = first_path c.args.path.now c.args.stream (ap (λ n. nat_eq n 0) c.if-stream-eq0.true) in
    (line.0, line.1 ∙ ap (λ p. g.E.Target.sent c.args.err.now ++ fault_line p (reason_text (Some c.args.at) c.args.why)) (sym path))

pub returns-clause-line : goal.returns-clause-line
returns-clause-line g c = λ known same.
    let sent = line_sent c.write_stream_line.result _ _ c.write_stream_line.ensures.sent c.write_stream_line.ensures.failed known same in
    let text = ap (text_at c.place.result) c.as_str.ensures ∙ (ap (λ a. text_at a (text_of c.args.why)) c.place.ensures ∙ reason_placed (Some c.args.at) c.args.why) in
    let path = ap (numbered c.args.path.now) c.saturating_add.ensures ∙ sym (later_path c.args.path.now c.args.stream (not_first c.args.stream c.if-stream-eq0.false)) in
    (refl, sent ∙ ap (λ t. g.E.Target.sent c.args.err.now ++ fault_line (numbered c.args.path.now c.saturating_add.result) t) text ∙ ap (λ p. g.E.Target.sent c.args.err.now ++ fault_line p (reason_text (Some c.args.at) c.args.why)) path)
