use Rattle.std.proofs.Common.{◌≡◌, ◌+◌, ◌++◌, length, sym, ap, ◌∙◌, arith}
use Rattle.std.specs.Prelude.{option_map}
use Rattle.std.specs.List.{sum}
use Rattle.flac_around.specs.Chains.{is_marked_last}
use Rattle.flac_around.specs.Stands.{end_past}
use Rattle.flac_around.specs.inner.Pages.{IsLead}
use Rattle.flac_around.specs.inner.Standing.{lead_size}
use Rattle.flac_around.proofs.ChainEnds.{no_pattern, lead_end, whole_size}
use Rattle.flac_around.proofs.EmptyPages.{begins_front}
use Rattle.flac_around.proofs.PageChecks.{all_taken}
use Rattle.flac_around.proofs.walk.look.Goals as goal

pub returns-then-not-begins_page-clause-stands : goal.returns-then-not-begins_page-clause-stands
returns-then-not-begins_page-clause-stands c = λ coming.
    let seen = c.args.seen.now in
    no_pattern (seen ++ coming) (begins_front seen coming (omega (arith, c.if-seen-lt-HEAD.false)) ∙ (sym c.begins_page.ensures ∙ c.if-not-begins_page.true))

pub returns-clause-stands : goal.returns-clause-stands
returns-clause-stands c = λ coming.
    let seen = c.args.seen.now in
    let size : length seen ≡ lead_size seen = omega (arith, c.requires, c.if-seen-lead_size.false, c.lead_size.ensures.value) in
    let is : IsLead seen = record { begins = sym c.begins_page.ensures ∙ c.if-not-begins_page.false; count = whole_size seen size (omega (arith, c.if-seen-lt-HEAD.false)) } in
    lead_end seen coming is
    ∙ ap (λ n. option_map (λ k. length seen + k) (end_past n (is_marked_last seen) coming)) (sym (c.total.ensures.sum ∙ ap sum (all_taken 27 seen)))
    ∙ ap (λ b. option_map (λ k. length seen + k) (end_past c.total.result b coming)) (sym c.is_marked_last.ensures)
    ∙ ap (option_map (λ k. length seen + k)) (c.settled.ensures.stands coming)
