use Rattle.std.proofs.Common.{◌≡◌, ◌<◌, ◌++◌, ◌^◌, true, sym, ap, subst, ◌∙◌, arith}
use Rattle.flac_native.specs.Seeking.{table_of}
use Rattle.flac_native.specs.Writing.{head_spelling}
use Rattle.flac_encoder.specs.Pushing.{Shape}
use Rattle.flac_draft.specs.Table.{takes}
use Rattle.flac_draft.specs.Rewriting.{IsWrittenOver}
use Rattle.flac_draft.specs.inner.Gathering.{info_with}
use Rattle.flac_draft.proofs.Drafting.{draft_of, draft_whole}
use Rattle.flac_draft.proofs.draft_encoder.DraftEncoder.finish.Goals as goal

pub returns-in-Ok-clause-finished : goal.returns-in-Ok-clause-finished
returns-in-Ok-clause-finished g c =
    let i = c.self.inside in
    let d = draft_of i.blocks i.target i.list i.hasher i.least i.greatest i.start i.table in
    let digest = c.finalize-digest.result in
    let few : d.pushed.samples < 2 ^ 36 = omega (arith, c.samples-total.ensures.value, c.samples-total.ensures.few) in
    let takes_it : takes i.table d.pushed.samples ≡ true = ap (takes i.table) (sym c.samples-total.ensures.value) ∙ sym c.takes.ensures ∙ c.if-not-takes.false in
    let info = c.info_with-info.ensures ∙ ap (λ (s : Shape). info_with s i.least i.greatest c.samples-total.result digest) (sym c.self.invariant.same)
    ∙ ap (λ n. info_with d.pushed.shape i.least i.greatest n digest) c.samples-total.ensures.value in
    rw (← c.self.view_is) (λ known samples before o all.
    draft_whole g.W.Target samples before d c.write_over.new.self digest c.in-Some.head.items o all few takes_it c.finalize-digest.ensures
    (c.in-Some.ensures ∙ ap (λ x. head_spelling x (i.list ++ table_of c.into_points.result.items)) info ∙ ap (λ x. head_spelling (info_with d.pushed.shape i.least i.greatest d.pushed.samples digest) (i.list ++ table_of x)) c.into_points.ensures.points)
    (subst (λ l. IsWrittenOver i.start l (g.W.Target.sent i.target) (g.W.Target.sent c.write_over.new.self)) c.as_slice.ensures.value (c.in-Ok.ensures.written known)))
