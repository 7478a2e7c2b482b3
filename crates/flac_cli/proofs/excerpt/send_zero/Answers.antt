use Rattle.std.proofs.Common.{◌++◌, ap, sym, ◌∙◌, append-nil}
use Rattle.flac_cli.proofs.Excerpts.{even_zero, odd_zero}
use Rattle.flac_cli.proofs.excerpt.send_zero.Goals as goal

pub returns-then-total-row-eq0-clause-sent : goal.returns-then-total-row-eq0-clause-sent
returns-then-total-row-eq0-clause-sent g c = λ known. sym (ap (λ l. g.W.Target.sent c.args.target.now ++ l) (even_zero c.args.total c.args.row c.if-total-row-eq0.true) ∙ append-nil (g.W.Target.sent c.args.target.now))

pub returns-in-Ok-clause-sent : goal.returns-in-Ok-clause-sent
returns-in-Ok-clause-sent g c = λ known. c.in-Ok.ensures.sends.sent known ∙ ap (λ l. g.W.Target.sent c.args.target.now ++ l) (sym (odd_zero c.args.total c.args.row c.if-total-row-eq0.false))
