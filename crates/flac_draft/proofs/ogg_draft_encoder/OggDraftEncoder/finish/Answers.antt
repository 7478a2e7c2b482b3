use Rattle.std.proofs.Common.{rules, ◌<◌, ◌^◌, sym, ap, subst, ◌∙◌, arith}
use Rattle.flac_bits.specs.Forms.{AreBytes, IsBytes}
use Rattle.flac_info.specs.Info.{Info}
use Rattle.flac_encoder.specs.Pushing.{Shape}
use Rattle.flac_draft.specs.inner.Ending.{IsFirstPage, EndsAs}
use Rattle.flac_draft.specs.inner.Gathering.{info_with}
use Rattle.flac_draft.proofs.OggDrafting.{ogg_of, ogg_whole}
use Rattle.flac_draft.proofs.ogg_draft_encoder.OggDraftEncoder.finish.Goals as goal

pub first_page-page-requires : goal.first_page-page-requires
first_page-page-requires g c = subst (λ (i : Info). IsBytes 16 i.digest) (sym c.info_with-info.ensures) (record { many = search rules; small = subst AreBytes c.as_slice.ensures c.bytes_fit.ensures })

pub returns-in-Ok-clause-finished : goal.returns-in-Ok-clause-finished
returns-in-Ok-clause-finished g c =
    let i = c.self.inside in
    let d = ogg_of i.blocks i.target i.list i.hasher i.least i.greatest i.start i.serial i.held.next i.held.middle.items i.held.last.items in
    let digest = c.finalize-digest.result in
    let few : d.draft.pushed.samples < 2 ^ 36 = omega (arith, c.samples-total.ensures.value, c.samples-total.ensures.few) in
    let info = c.info_with-info.ensures ∙ ap (λ (s : Shape). info_with s i.least i.greatest c.samples-total.result digest) (sym c.self.invariant.same)
    ∙ ap (λ n. info_with d.draft.pushed.shape i.least i.greatest n digest) c.samples-total.ensures.value in
    let page = c.in-Some.page.items in
    rw (← c.self.view_is) (λ known samples before o all.
    ogg_whole g.W.Target samples before d c.end_stream.new.target digest page o all few c.finalize-digest.ensures (subst (λ (x : Info). IsFirstPage i.serial x i.list page) info c.in-Some.ensures)
    (subst (λ l. EndsAs i.start l page (g.W.Target.sent i.target) (g.W.Target.sent c.end_stream.new.target)) c.as_slice-2.ensures.value
    (subst (λ l. EndsAs i.start c.as_slice-2.result.now l (g.W.Target.sent i.target) (g.W.Target.sent c.end_stream.new.target)) c.as_slice-3.ensures.value (c.in-Ok.ensures.written known))))
