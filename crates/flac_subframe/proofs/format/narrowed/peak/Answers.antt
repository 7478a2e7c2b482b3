use Rattle.std.proofs.Common.{◌≡◌, pos, length, get_or, inl, inr, w32, FitsSigned, arith, rules}
use Rattle.std.specs.Int.RustNames.{unsigned_abs}
use Rattle.std.proofs.lemmas.Bool.{cases_lt}
use Rattle.std.proofs.lemmas.Int.{ints, to_z-of_z}
use Rattle.std.proofs.Math.ListN.{get_or-eq_default}
use Rattle.flac_subframe.proofs.format.narrowed.peak.Goals as goal

pub loop-sample-preserved : goal.loop-sample-preserved
loop-sample-preserved c = λ i h.
    let s = c.args.samples.now in let j = c.loop-sample.sample-index in
    let fit : FitsSigned w32 (get_or s j (pos 0)) = search rules in
    let value : c.unsigned_abs.result ≡ unsigned_abs (get_or s j (pos 0)) = rw (to_z-of_z w32 (get_or s j (pos 0)) fit) at c.unsigned_abs.ensures.value in
    elim (cases_lt i j) [
      | inl d ↦ omega (arith, c.loop-sample.invariant i d, c.max-most.ensures)
      | inr d ↦ let e : i ≡ j = omega arith in rw e (omega (arith, value, c.max-most.ensures))
    ]

pub returns-then-not-narrow : goal.returns-then-not-narrow
returns-then-not-narrow c = λ t i.
    let s = c.args.samples.now in
    elim (cases_lt i (length s)) [
      | inl d ↦ let fit = c.requires.fits t i (pos 0) d in omega (arith, ints, fit.low, fit.high)
      | inr d ↦ rw (get_or-eq_default s (pos 0) {n = i} d) (omega arith)
    ]

pub returns : goal.returns
returns c = λ _ i.
    let s = c.args.samples.now in
    elim (cases_lt i (length s)) [
      | inl d ↦ c.loop-sample.invariant i (omega arith)
      | inr d ↦ rw (get_or-eq_default s (pos 0) {n = i} d) (omega arith)
    ]
