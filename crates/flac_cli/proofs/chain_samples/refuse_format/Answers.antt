use Rattle.std.proofs.Common.{◌≡◌, ◌++◌, codes, nat_eq, refl, sym, ap, ◌∙◌}
use Rattle.flac_cli.specs.Chains.{numbered}
use Rattle.flac_cli.specs.Reports.{fault_line}
use Rattle.flac_cli.proofs.ChainsRead.{first_path, later_path, not_first}
use Rattle.flac_cli.proofs.Reported.{line_sent}
use Rattle.flac_cli.proofs.chain_samples.refuse_format.Goals as goal

pub returns-then-stream-eq0-clause-line : goal.returns-then-stream-eq0-clause-line
returns-then-stream-eq0-clause-line g c = λ known same.
    line_sent c.write_line.result _ _ c.write_line.ensures.sent c.write_line.ensures.failed known same
    ∙ ap (λ p. g.E.Target.sent c.args.err.now ++ fault_line p (codes "95 OtherFormat")) (sym (first_path c.args.path.now c.args.stream (ap (λ n. nat_eq n 0) c.if-stream-eq0.true)))

pub returns-clause-line : goal.returns-clause-line
returns-clause-line g c = λ known same.
    let path = ap (numbered c.args.path.now) c.saturating_add.ensures ∙ sym (later_path c.args.path.now c.args.stream (not_first c.args.stream c.if-stream-eq0.false)) in
    line_sent c.write_stream_line.result _ _ c.write_stream_line.ensures.sent c.write_stream_line.ensures.failed known same
    ∙ ap (λ p. g.E.Target.sent c.args.err.now ++ fault_line p (codes "95 OtherFormat")) path
