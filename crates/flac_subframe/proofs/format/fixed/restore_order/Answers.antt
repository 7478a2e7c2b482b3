use Rattle.std.proofs.Common.{arith, ◌+◌, ◌≤◌, pos, IsTrue, length}
use Rattle.flac_subframe.specs.format.Prediction.{fixed_coefficients}
use Rattle.flac_subframe.proofs.lemmas.format.Predicted.{fixed_length}
use Rattle.flac_subframe.proofs.lemmas.format.Restoring.{done}
use Rattle.flac_subframe.proofs.lemmas.format.RunningSums.{goes_on, must_fit, fit_anywhere}
use Rattle.flac_subframe.proofs.format.fixed.restore_order.Goals as goal

pub loop-at-preserved : goal.loop-at-preserved
loop-at-preserved c =
    let l = c.loop-at in
    let t = c.restore_group.new.samples in
    let end = l.at + c.min-count.result in
    let size = fixed_length c.args.order c.requires.order in
    let long : length (fixed_coefficients c.args.order) ≤ l.at = omega (arith, size, l.invariant.some) in
    let fits = c.restore_group.ensures.fits.0 c.if-not-restore_group.false in
    record {
      so = goes_on (fixed_coefficients c.args.order) c.args.bits c.args.samples.now l.samples t l.at end long l.invariant.so c.restore_group.ensures.restored (omega arith) (λ k g h. fits k (pos 0) g h);
      some = omega (arith, l.invariant.some);
      within = omega arith;
    }

pub returns-clause-fits : goal.returns-clause-fits
returns-clause-fits c = λ t. (done (fixed_coefficients c.args.order) 0 c.args.bits c.args.samples.now c.loop-at.samples c.loop-at.at c.loop-at.auto.samples (omega arith) c.loop-at.invariant.so).1

pub returns-then-not-restore_group-clause-only : goal.returns-then-not-restore_group-clause-only
returns-then-not-restore_group-clause-only c = λ u all fit.
    let l = c.loop-at in
    let t = c.restore_group.new.samples in
    let end = l.at + c.min-count.result in
    let size = fixed_length c.args.order c.requires.order in
    let long : length (fixed_coefficients c.args.order) ≤ l.at = omega (arith, size, l.invariant.some) in
    let fits = must_fit (fixed_coefficients c.args.order) c.args.bits c.args.samples.now l.samples t l.at end long l.invariant.so c.restore_group.ensures.restored u (omega arith) all fit in
    let yes : IsTrue c.restore_group.result = c.restore_group.ensures.fits.1 (fit_anywhere c.args.bits t l.at end (omega arith) fits) in
    absurd (cc (yes, c.if-not-restore_group.true))
