use Rattle.std.specs.Prelude.{⊤}
use Rattle.std.proofs.Common.{sym, subst}
use Rattle.flac_encoder.specs.Pushing.{Pushed}
use Rattle.flac_draft.specs.OggDraft.{OggDraft, StaysOggDraft}
use Rattle.flac_draft.proofs.Drafting.{on_ok}
use Rattle.flac_draft.proofs.OggDrafting.{ogg_of, ogg_searching}
use Rattle.flac_draft.proofs.ogg_draft_encoder.OggDraftEncoder.set_search.Goals as goal

pub returns-clause-stays : goal.returns-clause-stays
returns-clause-stays g c =
    let e = c.self.inside in
    let h = e.held in
    let old = ogg_of e.blocks e.target e.list e.hasher e.least e.greatest e.start e.serial h.next h.middle.items h.last.items in
    on_ok c.set_search.result
    (λ set. subst (λ (d : OggDraft g.row.W.Denot). StaysOggDraft g.W.Target d (ogg_of c.set_search.new.self e.target e.list e.hasher e.least e.greatest e.start e.serial h.next h.middle.items h.last.items)) c.self.view_is
    (subst (λ (b : Pushed ⊤). StaysOggDraft g.W.Target old (ogg_of b e.target e.list e.hasher e.least e.greatest e.start e.serial h.next h.middle.items h.last.items)) (sym set) (ogg_searching g.W.Target old c.args.search)))
    c.set_search.ensures.set
