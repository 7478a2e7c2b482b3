use Rattle.std.proofs.Common.{◌≡◌, ◌∙◌, None, sym, ap, subst, inl, inr}
use Rattle.std.proofs.lemmas.Result.{err_from_is_err_and}
use Rattle.flac_native.specs.Given.{predictors_fault}
use Rattle.flac_native.proofs.Planned.{planned}
use Rattle.flac_encoder.specs.Pushing.{Pushed, IsFirst}
use Rattle.flac_raw.specs.Planned.{Planned, raw_cut, table_fault}
use Rattle.flac_raw.proofs.Planning.{begin_is}
use Rattle.flac_raw.proofs.Beginning.{begun_draft}
use Rattle.flac_raw.proofs.raw_draft.begun.Goals as goal

pub returns-in_err-encoder-clause-refused : goal.returns-in_err-encoder-clause-refused
returns-in_err-encoder-clause-refused g c =
    let p = err_from_is_err_and c.from_residual.result c.from_residual.ensures.1 in
    let i = c.plan.inside in
    rw (p.1, p.2) (subst (λ (q : Planned). IsFirst (table_fault q c.args.list) c.in_err-encoder.field-0.0) c.plan.view_is
    (subst (λ o. IsFirst o c.in_err-encoder.field-0.0) (begin_is i.profile i.format i.total i.predictors.items c.plan.invariant c.args.list) c.in_err-encoder.ensures.refused))

pub try_predictors-requires : goal.try_predictors-requires
try_predictors-requires g c =
    let i = c.plan.inside in
    ap (λ (q : Pushed g.row.W.Denot). predictors_fault q.shape.profile q.shape.rate i.predictors.items) c.in_ok-encoder.ensures.made
    ∙ (planned (raw_cut i.profile i.format i.total i.predictors.items) c.plan.invariant).predictors

pub returns-in_err-set_search-clause-refused : goal.returns-in_err-set_search-clause-refused
returns-in_err-set_search-clause-refused g c =
    let p = err_from_is_err_and c.from_residual-in_err-set_search.result c.from_residual-in_err-set_search.ensures.1 in
    let i = c.plan.inside in
    let none : table_fault c.args.plan c.args.list ≡ None = subst (λ (q : Planned). table_fault q c.args.list ≡ None) c.plan.view_is
    (sym (begin_is i.profile i.format i.total i.predictors.items c.plan.invariant c.args.list) ∙ c.in_ok-encoder.ensures.accepted) in
    rw (p.1, p.2) (inr (none, inl c.in_err-set_search.ensures.memory))

pub returns-clause-draft : goal.returns-clause-draft
returns-clause-draft g c =
    let i = c.plan.inside in
    begun_draft (record { profile = i.profile; format = i.format; total = i.total; predictors = i.predictors.items; search = i.search }) c.args.list c.in_ok-encoder.encoder c.try_predictors.new.encoder c.set_search.new.self
    c.in_ok-encoder.ensures.made c.try_predictors.ensures.set c.in_ok-set_search.ensures.set g.W.Target c.args.target c.in_ok-encoder.ensures.begun c.try_predictors.ensures.stays c.in_ok-set_search.ensures.stays

pub returns-clause-accepted : goal.returns-clause-accepted
returns-clause-accepted g c =
    let i = c.plan.inside in
    subst (λ (q : Planned). table_fault q c.args.list ≡ None) c.plan.view_is
    (sym (begin_is i.profile i.format i.total i.predictors.items c.plan.invariant c.args.list) ∙ c.in_ok-encoder.ensures.accepted)
