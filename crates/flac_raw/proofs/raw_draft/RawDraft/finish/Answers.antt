use Rattle.std.specs.Prelude.{IfErr}
use Rattle.std.proofs.Common.{◌≡◌, Result, Err, sym, subst, ◌∙◌}
use Rattle.flac_encoder.specs.Pushing.{Fails}
use Rattle.flac_draft.specs.Draft.{FailsLast}
use Rattle.flac_raw.specs.inner.Pushed.{draft_in}
use Rattle.flac_raw.specs.declared.raw_draft.RawDraft.{RawDraft}
use Rattle.flac_raw.proofs.Beginning.{finished_write}
use Rattle.flac_raw.proofs.raw_draft.RawDraft.finish.Goals as goal
use Rattle.flac_raw.proofs.raw_draft.RawDraft.finish.Goals.{in-Native, in-Ogg}

of_err : {X E : Type 0} (P : E → Type 0) (r : Result X E) (e : E) → r ≡ Err e → IfErr r P → P e
of_err P r e is h = subst (λ x. IfErr x P) is h

pub returns-in-Err-clause-failed : goal.returns-in-Err-clause-failed
returns-in-Err-clause-failed g c = λ is.
    let left = c.in-Err.unfinished in
    let write = finished_write left.fault (sym c.finished_as.ensures ∙ is) in
    let told = λ (d : RawDraft g.row.W.Denot). Fails g.W.Target (draft_in d).pushed.target left.left in
    elim c.match-self.branch [
      | in-Native w ↦ (left.left, subst told (sym w.in-Native.is) (of_err (λ e. FailsLast g.W.Target w.in-Native.encoder.pushed.target e.fault e.left) w.finish-finished.result left (sym w.finished-is ∙ c.in-Err.is) w.finish-finished.ensures.failed write))
      | in-Ogg w ↦ (left.left, subst told (sym w.in-Ogg.is) (of_err (λ e. FailsLast g.W.Target w.in-Ogg.encoder.draft.pushed.target e.fault e.left) w.finish-finished-in-Ogg.result left (sym w.finished-is ∙ c.in-Err.is) w.finish-finished-in-Ogg.ensures.failed write))
    ]
