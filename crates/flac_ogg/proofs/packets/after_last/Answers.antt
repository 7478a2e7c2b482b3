use Rattle.std.proofs.Common.{sym, ap, subst, ◌∙◌}
use Rattle.flac_bits.specs.Handing.{IsOutside}
use Rattle.flac_pages.specs.Packets.{Met}
use Rattle.flac_ogg.specs.Steps.{refused}
use Rattle.flac_ogg.proofs.Stepped.{byte_after, due_after}
use Rattle.flac_ogg.proofs.Breaking.{in_page, none_due, due_met}
use Rattle.flac_ogg.proofs.packets.after_last.Goals as goal

pub returns-then-not-is_past_metadata-clause-fault : goal.returns-then-not-is_past_metadata-clause-fault
returns-then-not-is_past_metadata-clause-fault c = λ p at way. due_after c.args.track.now p c.block_due.result (c.args.page, c.args.why) at (sym c.is_past_metadata.ensures ∙ c.if-not-is_past_metadata.true) c.block_due.ensures.at c.block_due.ensures.why

pub returns-clause-fault : goal.returns-clause-fault
returns-clause-fault c = λ p at way.
    byte_after c.args.track.now p (c.args.page, c.args.why) at way (sym c.is_past_metadata.ensures ∙ c.if-not-is_past_metadata.false) ∙ ap (λ k. refused k c.args.why) (sym c.refused_page.ensures.at)
    ∙ ap (λ w. refused c.refused_page.result.at w) (sym c.refused_page.ensures.why)

pub returns-then-not-is_past_metadata-clause-page : goal.returns-then-not-is_past_metadata-clause-page
returns-then-not-is_past_metadata-clause-page c = λ out. absurd (none_due c.block_due.result.why c.block_due.ensures.why out)

pub returns-clause-page : goal.returns-clause-page
returns-clause-page c = λ out. c.refused_page.ensures.at ∙ in_page c.args.page c.args.why (subst IsOutside c.refused_page.ensures.why out)

pub returns-clause-met : goal.returns-clause-met
returns-clause-met c = λ old new met. subst (λ w. Met w old new) (sym c.refused_page.ensures.why) met

pub returns-then-not-is_past_metadata-clause-met : goal.returns-then-not-is_past_metadata-clause-met
returns-then-not-is_past_metadata-clause-met c = λ old new met. due_met c.block_due.result.why old new c.block_due.ensures.why
