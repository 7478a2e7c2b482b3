use Rattle.std.proofs.Common.{ℤ, List, subst, ◌∙◌}
use Rattle.flac_c.specs.Answers.{IsCopied}
use Rattle.flac_c.proofs.Kept.{then_ok}
use Rattle.flac_c.proofs.Collecting.{numbers_from_none}
use Rattle.flac_c.proofs.samples.samples_by.Goals as goal

pub returns-clause-decoded : goal.returns-clause-decoded
returns-clause-decoded c = λ zero.
    let d = then_ok _ c.collect.result c.in_default.field-0 c.in_default.is c.collect.ensures.done in
    let numbers = numbers_from_none (λ s. s.list.items) _ d.0 _ d.2 c.new.ensures.items in
    (d.0, d.1, subst (λ (l : List ℤ). IsCopied l c.args.out.now c.copy.new.out c.copy.result) (c.as_slice.ensures.value ∙ numbers) c.copy.ensures)
