use Rattle.std.proofs.Common.{refl, ap, ◌∙◌, ◌++◌}
use Rattle.flac_bits.specs.Reasons.{text_of}
use Rattle.flac_cli.specs.Lined.{text_at}
use Rattle.flac_cli.specs.Reports.{fault_line}
use Rattle.flac_cli.proofs.Reported.{line_sent, reason_placed}
use Rattle.flac_cli.proofs.report.refuse.Goals as goal

pub returns-clause-line : goal.returns-clause-line
returns-clause-line g c = λ known same.
    let sent = line_sent c.write_line.result _ _ c.write_line.ensures.sent c.write_line.ensures.failed known same in
    let text = ap (text_at c.place.result) c.as_str.ensures ∙ (ap (λ a. text_at a (text_of c.args.why)) c.place.ensures ∙ reason_placed c.args.at c.args.why) in
    (refl, sent ∙ ap (λ t. g.E.Target.sent c.args.err.now ++ fault_line c.args.path.now t) text)
