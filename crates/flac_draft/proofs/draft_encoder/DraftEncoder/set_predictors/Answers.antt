use Rattle.std.specs.Prelude.{⊤}
use Rattle.std.proofs.Common.{sym, subst}
use Rattle.flac_encoder.specs.Pushing.{Pushed}
use Rattle.flac_draft.specs.Draft.{Draft, StaysDraft}
use Rattle.flac_draft.proofs.Drafting.{draft_of, on_ok, stays_trying}
use Rattle.flac_draft.proofs.draft_encoder.DraftEncoder.set_predictors.Goals as goal

pub returns-clause-stays : goal.returns-clause-stays
returns-clause-stays g c =
    let e = c.self.inside in
    let old = draft_of e.blocks e.target e.list e.hasher e.least e.greatest e.start e.table in
    on_ok c.set_predictors.result
    (λ set. subst (λ (d : Draft g.row.W.Denot). StaysDraft g.W.Target d (draft_of c.set_predictors.new.self e.target e.list e.hasher e.least e.greatest e.start e.table)) c.self.view_is
    (subst (λ (b : Pushed ⊤). StaysDraft g.W.Target old (draft_of b e.target e.list e.hasher e.least e.greatest e.start e.table)) (sym set) (stays_trying g.W.Target old c.args.predictors.items)))
    c.set_predictors.ensures.set
