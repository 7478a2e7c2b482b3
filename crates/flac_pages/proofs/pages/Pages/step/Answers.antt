use Rattle.std.proofs.Common.{sym, ◌∙◌}
use Rattle.flac_pages.proofs.Exits.{step_over, step_last, step_segment, step_turned, step_refused}
use Rattle.flac_pages.proofs.pages.Pages.step.Goals as goal

pub returns-then-not-goes_on-clause-steps : goal.returns-then-not-goes_on-clause-steps
returns-then-not-goes_on-clause-steps g c = step_over c.args.self.now c.requires (sym c.goes_on.ensures ∙ c.if-not-goes_on.true)

pub returns-then-not-is_read-clause-steps : goal.returns-then-not-is_read-clause-steps
returns-then-not-is_read-clause-steps g c =
    step_segment c.args.self.now c.take_segment.new.self c.requires (sym c.goes_on.ensures ∙ c.if-not-goes_on.false) (c.is_read.ensures.some c.if-not-is_read.true) c.take_segment.ensures

pub returns-then-is_last-clause-steps : goal.returns-then-is_last-clause-steps
returns-then-is_last-clause-steps g c = step_last c.args.self.now c.requires (c.is_read.ensures.none c.if-not-is_read.false) (sym c.is_last.ensures ∙ c.if-is_last.true)

pub returns-in-Ok-clause-steps : goal.returns-in-Ok-clause-steps
returns-in-Ok-clause-steps g c = step_turned c.args.self.now c.turn.new.self c.requires (c.is_read.ensures.none c.if-not-is_read.false) c.in-Ok.ensures.turns

pub returns-in-Err-clause-steps : goal.returns-in-Err-clause-steps
returns-in-Err-clause-steps g c = step_refused c.args.self.now c.turn.new.self c.in-Err.why c.requires (sym c.goes_on.ensures ∙ c.if-not-goes_on.false) c.in-Err.ensures.turns
