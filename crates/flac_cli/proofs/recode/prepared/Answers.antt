use Rattle.std.proofs.lemmas.Result.{err_from_is_err_and}
use Rattle.flac_cli.specs.Asked.{asked_of}
use Rattle.flac_cli.specs.Recoded.{heard_in}
use Rattle.flac_cli.proofs.Recoding.{fault_reason, held_reason, not_unread, same_refused}
use Rattle.flac_cli.proofs.recode.prepared.Goals as goal

pub returns-in_err-held-clause-refused : goal.returns-in_err-held-clause-refused
returns-in_err-held-clause-refused g c =
    let p = err_from_is_err_and c.from_residual.result c.from_residual.ensures.1 in
    rw (p.1, p.2) (λ tells. fault_reason (asked_of c.args.encoding.now) c.args.predictors.items (g.R.Source.coming c.args.source.now) (g.R.Source.after c.args.source.now) _ (c.in_err-held.ensures.refused tells))

pub returns-in_err-held-clause-unwritten : goal.returns-in_err-held-clause-unwritten
returns-in_err-held-clause-unwritten g c =
    let p = err_from_is_err_and c.from_residual.result c.from_residual.ensures.1 in
    rw (p.1, p.2) (λ e. not_unread _ _ e)

pub returns-in_err-ready-clause-refused : goal.returns-in_err-ready-clause-refused
returns-in_err-ready-clause-refused g c =
    let p = err_from_is_err_and c.from_residual-in_err-ready.result c.from_residual-in_err-ready.ensures.1 in
    rw (p.1, p.2) (λ tells.
    let h = c.in_ok-held.ensures.held tells.0 in
    held_reason (asked_of c.args.encoding.now) c.args.predictors.items (g.R.Source.coming c.args.source.now) (g.R.Source.after c.args.source.now) _ h.0 h.1 h.2 h.3 (c.in_err-ready.ensures.refused h.0 h.1 (heard_in h.0 h.2) h.4))

pub returns-in_err-ready-clause-unwritten : goal.returns-in_err-ready-clause-unwritten
returns-in_err-ready-clause-unwritten g c =
    let p = err_from_is_err_and c.from_residual-in_err-ready.result c.from_residual-in_err-ready.ensures.1 in
    rw (p.1, p.2) (λ e. c.in_err-ready.ensures.unwritten (same_refused _ _ e))

pub returns-clause-found : goal.returns-clause-found
returns-clause-found g c = λ known.
    let h = c.in_ok-held.ensures.held known in
    (h.0, h.1, h.2, h.3, c.in_ok-ready.ensures.found h.0 h.1 (heard_in h.0 h.2) h.4)
