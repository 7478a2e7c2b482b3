use Rattle.std.proofs.Common.{All}
use Rattle.flac_bits.specs.Signed.{FitsBits}
use Rattle.flac_subframe.proofs.lemmas.search.Folds.{folds_small}
use Rattle.flac_subframe.proofs.lemmas.format.Narrow.{narrow_differences}
use Rattle.flac_subframe.proofs.search.choice.take_fixed_residual.Goals as goal

pub returns-then-subject-clause-range : goal.returns-then-subject-clause-range
returns-then-subject-clause-range c = λ _.
    let fits : All (FitsBits 27) c.args.subject.now.narrowed.now = rw (c.args.subject.now.same c.if-subject.true) (c.args.subject.now.leaves c.if-subject.true) in
    rw c.take_narrow.ensures.values (narrow_differences c.args.order c.args.subject.now.narrowed.now c.requires.order fits)

pub returns-then-subject-clause-small : goal.returns-then-subject-clause-small
returns-then-subject-clause-small c = λ _.
    let fits : All (FitsBits 27) c.args.subject.now.narrowed.now = rw (c.args.subject.now.same c.if-subject.true) (c.args.subject.now.leaves c.if-subject.true) in
    rw c.take_narrow.ensures.folds (folds_small _ (narrow_differences c.args.order c.args.subject.now.narrowed.now c.requires.order fits))

pub returns-clause-small : goal.returns-clause-small
returns-clause-small c = λ _. rw (c.fold_each.ensures.folds, c.take_differences.ensures.all) (folds_small _ (c.take_differences.ensures.range.0 c.if-not-take_differences.false))
