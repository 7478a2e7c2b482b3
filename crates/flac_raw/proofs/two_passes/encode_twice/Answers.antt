use Rattle.std.proofs.Common.{ap}
use Rattle.std.proofs.lemmas.Result.{err_from_is_err_and}
use Rattle.flac_raw.specs.Planned.{Planned}
use Rattle.flac_raw.proofs.Refusing.{twice_raw, twice_plan, twice_pass, twice_good}
use Rattle.flac_raw.proofs.two_passes.encode_twice.Goals as goal

pub returns-in_err-total-clause-refused : goal.returns-in_err-total-clause-refused
returns-in_err-total-clause-refused g c =
    let p = err_from_is_err_and c.from_residual.result c.from_residual.ensures.1 in
    let a = c.args.encoding in
    rw (p.1, p.2) (λ known same told still. twice_raw a.profile a.format a.predictors.items a.list (g.A.Source.coming c.args.first.now) (g.R.Source.coming c.args.second.now) _ (c.in_err-total.ensures.refused known same))

pub returns-in_err-plan-clause-refused : goal.returns-in_err-plan-clause-refused
returns-in_err-plan-clause-refused g c =
    let p = err_from_is_err_and c.from_residual-in_err-plan.result c.from_residual-in_err-plan.ensures.1 in
    let a = c.args.encoding in
    rw (p.1, p.2) (λ known same told still. twice_plan a.profile a.format a.predictors.items a.list (g.A.Source.coming c.args.first.now) (g.R.Source.coming c.args.second.now) c.in_ok-total.total (c.in_ok-total.ensures.samples known) _ c.in_err-plan.ensures.made)

pub returns-in_err-out-clause-refused : goal.returns-in_err-out-clause-refused
returns-in_err-out-clause-refused g c =
    let p = err_from_is_err_and c.from_residual-in_err-out.result c.from_residual-in_err-out.ensures.1 in
    let a = c.args.encoding in
    let made = c.in_ok-plan.ensures.made in
    rw (p.1, p.2) (λ known same told still. twice_pass a.profile a.format a.predictors.items a.list (g.A.Source.coming c.args.first.now) (g.R.Source.coming c.args.second.now) c.in_ok-total.total (c.in_ok-total.ensures.samples known)
    c.in_ok-plan.plan _ (ap (λ (q : Planned). q.profile) made) (ap (λ (q : Planned). q.format) made) (ap (λ (q : Planned). q.total) made) (ap (λ (q : Planned). q.predictors) made) c.in_ok-plan.ensures.good (c.in_err-out.ensures.refused told still))

pub returns-clause-accepted : goal.returns-clause-accepted
returns-clause-accepted g c = λ known.
    let a = c.args.encoding in
    let made = c.in_ok-plan.ensures.made in
    twice_good a.profile a.format a.predictors.items a.list (g.A.Source.coming c.args.first.now) (g.R.Source.coming c.args.second.now) c.in_ok-total.total (c.in_ok-total.ensures.samples known)
    c.in_ok-plan.plan (ap (λ (q : Planned). q.format) made) c.in_ok-plan.ensures.good c.in_ok-out.ensures.table
