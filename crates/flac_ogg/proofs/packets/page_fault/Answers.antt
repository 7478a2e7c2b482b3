use Rattle.std.proofs.Common.{sym, ap, subst, ◌∙◌}
use Rattle.flac_bits.specs.Handing.{IsOutside}
use Rattle.flac_pages.specs.Packets.{Met}
use Rattle.flac_ogg.specs.Steps.{refused}
use Rattle.flac_ogg.proofs.Stepped.{page_refused}
use Rattle.flac_ogg.proofs.Breaking.{in_page}
use Rattle.flac_ogg.proofs.packets.page_fault.Goals as goal

pub returns-then-is_last-clause-fault : goal.returns-then-is_last-clause-fault
returns-then-is_last-clause-fault c = λ p at way. rw c.if-is_last.true (c.after_last.ensures.fault p at way)

pub returns-clause-fault : goal.returns-clause-fault
returns-clause-fault c = λ p at way. rw c.if-is_last.false (page_refused p (c.args.page, c.args.why) ∙ ap (λ k. refused k c.args.why) (sym c.refused_page.ensures.at) ∙ ap (λ w. refused c.refused_page.result.at w) (sym c.refused_page.ensures.why))

pub returns-clause-page : goal.returns-clause-page
returns-clause-page c = λ out. c.refused_page.ensures.at ∙ in_page c.args.page c.args.why (subst IsOutside c.refused_page.ensures.why out)

pub returns-clause-met : goal.returns-clause-met
returns-clause-met c = λ old new met. subst (λ w. Met w old new) (sym c.refused_page.ensures.why) met
