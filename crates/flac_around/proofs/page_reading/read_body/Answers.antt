use Rattle.std.proofs.Common.{◌≡◌, ◌≤◌, ◌-◌, ◌++◌, ℕ, List, length, take, drop, sym, ap, subst, ◌∙◌, arith}
use Rattle.std.specs.Prelude.{is_some}
use Rattle.std.specs.List.{sum}
use Rattle.std.proofs.lemmas.List.{length-take-le}
use Rattle.flac_around.specs.inner.Pages.{IsPlain, GivesPage, page_of}
use Rattle.flac_around.proofs.EmptyPages.{segments_cut, cut_plain, page_given, page_wrong}
use Rattle.flac_around.proofs.PageChecks.{all_taken}
use Rattle.flac_around.proofs.Pulls.{fails_of}
use Rattle.flac_around.proofs.Sourced.{from_start, few_came, ends_so}
use Rattle.flac_around.proofs.page_reading.read_body.Goals as goal

-- as many bytes as the lacing values say
sum_is : (lead : List ℕ) (n : ℕ) → n ≡ sum (take (length lead - 27) (drop 27 lead)) → n ≡ sum (drop 27 lead)
sum_is lead n is = is ∙ ap sum (all_taken 27 lead)

pub returns-in-Err-clause-fails : goal.returns-in-Err-clause-fails
returns-in-Err-clause-fails g c =
    let lead = c.args.lead.now in
    fails_of g.S.Source (λ few. segments_cut lead _ c.requires.is_lead (omega (arith, few, sum_is lead _ c.total-most.ensures.sum))) c.in-Err.ensures.fails

pub returns-then-end-most-clause-part : goal.returns-then-end-most-clause-part
returns-then-end-most-clause-part g c = λ part known.
    let lead = c.args.lead.now in
    let over = c.in-Ok.ensures.end c.if-end-most.true known in
    let few = few_came c.in-Ok.end c.fill.new.places _ _ (from_start c.args.body.now (g.S.Source.coming c.args.source.now) _ (c.in-Ok.ensures.bytes known)) over.0 in
    cut_plain _ _ (segments_cut lead _ c.requires.is_lead (omega (arith, few, c.if-end-most.true, sum_is lead _ c.total-most.ensures.sum))) (ends_so _ _ (c.in-Ok.ensures.goes.after known) over.1)

pub returns-clause-page : goal.returns-clause-page
returns-clause-page g c = λ right known fails.
    let lead = c.args.lead.now in
    let places = c.fill.new.places in
    let n = c.in-Ok.end in
    let later = g.S.Source.coming c.fill.new.source in
    let room : n ≤ length places = omega (arith, c.requires.room, c.in-Ok.ensures.few, c.total-most.ensures.most) in
    let all : n ≡ c.total-most.result = omega (arith, c.in-Ok.ensures.few, c.if-end-most.false) in
    subst (λ (l : List ℕ). GivesPage fails (page_of lead (take n places)) (lead ++ l) later) (sym (from_start c.args.body.now (g.S.Source.coming c.args.source.now) _ (c.in-Ok.ensures.bytes known)))
    (page_given fails lead (take n places) later c.requires.is_lead (length-take-le n places room ∙ all ∙ sum_is lead _ c.total-most.ensures.sum) (sym c.is_right-is_page.ensures ∙ right))

pub returns-clause-part : goal.returns-clause-part
returns-clause-part g c = λ wrong known.
    let lead = c.args.lead.now in
    let places = c.fill.new.places in
    let n = c.in-Ok.end in
    let later = g.S.Source.coming c.fill.new.source in
    let room : n ≤ length places = omega (arith, c.requires.room, c.in-Ok.ensures.few, c.total-most.ensures.most) in
    let all : n ≡ c.total-most.result = omega (arith, c.in-Ok.ensures.few, c.if-end-most.false) in
    let fails = is_some ((g.S.Source.after c.args.source.now).fails) in
    subst (λ (l : List ℕ). IsPlain fails (lead ++ l)) (sym (from_start c.args.body.now (g.S.Source.coming c.args.source.now) _ (c.in-Ok.ensures.bytes known)))
    (page_wrong fails lead (take n places) later c.requires.is_lead (length-take-le n places room ∙ all ∙ sum_is lead _ c.total-most.ensures.sum) (sym c.is_right-is_page.ensures ∙ wrong))
