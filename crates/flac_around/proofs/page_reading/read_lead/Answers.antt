use Rattle.std.proofs.Common.{◌≡◌, ◌≤◌, ◌++◌, ℕ, List, length, take, sym, ap, subst, ◌∙◌, arith}
use Rattle.std.specs.Prelude.{is_some}
use Rattle.std.proofs.lemmas.List.{length-take-le}
use Rattle.std.proofs.lemmas.Result.{IfOk-weaker}
use Rattle.flac_bits.specs.State.{After}
use Rattle.flac_around.specs.inner.Pages.{IsPlain}
use Rattle.flac_around.proofs.EmptyPages.{cut_short, cut_plain, no_front}
use Rattle.flac_around.proofs.Pulls.{fails_of}
use Rattle.flac_around.proofs.Sourced.{from_start, few_came, ends_so}
use Rattle.flac_around.proofs.page_reading.read_lead.Goals as goal

-- the 27 bytes came
all_first : (n : ℕ) (places coming later taken : List ℕ) → n ≡ 27 → take 0 taken ++ coming ≡ take n places ++ later → coming ≡ take 27 places ++ later
all_first n places coming later taken is e = from_start taken coming (take n places ++ later) e ∙ ap (λ k. take k places ++ later) is

-- the same of what was to come before
plain_back : (a b : After) (coming all : List ℕ) → b ≡ a → coming ≡ all → IsPlain (is_some b.fails) all → IsPlain (is_some a.fails) coming
plain_back a b coming all same is h = subst (λ (e : After). IsPlain (is_some e.fails) coming) same (subst (λ (l : List ℕ). IsPlain (is_some b.fails) l) (sym is) h)

pub returns-in-Err-clause-fails : goal.returns-in-Err-clause-fails
returns-in-Err-clause-fails g c =
    let coming = g.S.Source.coming c.args.source.now in
    fails_of g.S.Source (λ few. cut_short coming (omega (arith, few))) c.in-Err.ensures.fails

pub returns-then-end-lt-HEAD-clause-part : goal.returns-then-end-lt-HEAD-clause-part
returns-then-end-lt-HEAD-clause-part g c = λ part known.
    let coming = g.S.Source.coming c.args.source.now in
    let over = c.in-Ok.ensures.end c.if-end-lt-HEAD.true known in
    let few : length coming ≤ c.in-Ok.end = few_came c.in-Ok.end c.fill.new.places coming (g.S.Source.coming c.fill.new.source) (from_start c.args.lead.now coming _ (c.in-Ok.ensures.bytes known)) over.0 in
    cut_plain _ coming (cut_short coming (omega (arith, few, c.if-end-lt-HEAD.true))) (ends_so _ _ (c.in-Ok.ensures.goes.after known) over.1)

pub returns-then-begins_page-clause-part : goal.returns-then-begins_page-clause-part
returns-then-begins_page-clause-part g c =
    let source = g.S.Source in
    let e = c.in-Ok.ensures in
    let all : c.in-Ok.end ≡ 27 = omega (arith, e.few, c.if-end-lt-HEAD.false) in
    IfOk-weaker c.read_lacing.result _ _
    (λ r plain none known.
    plain_back (source.after c.args.source.now) (source.after c.fill.new.source) (source.coming c.args.source.now) (take 27 c.fill.new.places ++ source.coming c.fill.new.source) (e.goes.after known)
    (all_first c.in-Ok.end c.fill.new.places (source.coming c.args.source.now) (source.coming c.fill.new.source) c.args.lead.now all (e.bytes known))
    (plain none (e.goes.known known)))
    c.read_lacing.ensures.part

pub returns-clause-part : goal.returns-clause-part
returns-clause-part g c = λ none known.
    let source = g.S.Source in
    let e = c.in-Ok.ensures in
    let places = c.fill.new.places in
    let later = source.coming c.fill.new.source in
    let all : c.in-Ok.end ≡ 27 = omega (arith, e.few, c.if-end-lt-HEAD.false) in
    let room : 27 ≤ length places = omega (arith, c.requires, c.fill.auto.places) in
    let fails = is_some ((source.after c.args.source.now).fails) in
    subst (λ (l : List ℕ). IsPlain fails l) (sym (all_first c.in-Ok.end places (source.coming c.args.source.now) later c.args.lead.now all (e.bytes known)))
    (no_front fails (take 27 places) later (length-take-le 27 places room) (sym c.begins_page.ensures ∙ c.if-begins_page.false))
