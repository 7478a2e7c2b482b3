use Rattle.std.proofs.Common.{rules, arith, ◌≡◌, ◌∙◌, ◌+◌, ◌<◌, ◌≤◌, ℕ, ℤ, ◌+ℤ◌, pos, SFits, to_z, of_z, w64}
use Rattle.std.proofs.lemmas.Int.{to_z-of_z}
use Rattle.flac_subframe.proofs.lemmas.format.Nearest.{kept_near}
use Rattle.flac_subframe.proofs.lemmas.format.RunningSums.{Raised, fit_anywhere, bend_gap, twist_gap, group_starts, round, twist_held, bend_held, slope_held, value_held, value_near}
use Rattle.flac_subframe.proofs.lemmas.format.Summing.{residual_fits}
use Rattle.flac_subframe.proofs.format.fixed.restore_group.Goals as goal

-- what a call answered, as the code has it
raised : (order level : ℕ) (sum number new : ℤ) → SFits w64 new → (level ≤ order → new ≡ sum +ℤ number) → (order < level → new ≡ number) → Raised order level sum number (to_z w64 (of_z w64 new))
raised order level sum number new f added passed = record { added = λ h. to_z-of_z w64 new f ∙ added h; passed = λ h. to_z-of_z w64 new f ∙ passed h }

below_240 : (i count : ℕ) → i < count → count ≤ 240 → i < 240
below_240 i count h few = omega arith

pub gap-bend-requires : goal.gap-bend-requires
gap-bend-requires c =
    bend_gap _ _ _ _ _ _ _ c.sample_before-first.ensures.fits c.sample_before-second.ensures.fits c.sample_before-third.ensures.fits c.sample_before-fourth.ensures.fits c.gap-slope.ensures c.gap-past_slope.ensures c.gap.ensures

pub gap-twist-requires : goal.gap-twist-requires
gap-twist-requires c =
    twist_gap _ _ _ _ _ _ _ c.sample_before-first.ensures.fits c.sample_before-second.ensures.fits c.sample_before-third.ensures.fits c.sample_before-fourth.ensures.fits c.gap-slope.ensures c.gap-past_slope.ensures c.gap.ensures
    _ _ c.gap-bend.ensures c.gap-past_bend.ensures

pub loop-i-init : goal.loop-i-init
loop-i-init c =
    group_starts _ _ _ _ _ _ _ c.sample_before-first.ensures.fits c.sample_before-second.ensures.fits c.sample_before-third.ensures.fits c.sample_before-fourth.ensures.fits c.gap-slope.ensures c.gap-past_slope.ensures c.gap.ensures
    _ _ c.gap-bend.ensures c.gap-past_bend.ensures _ c.gap-twist.ensures c.args.order c.args.bits c.args.samples.now c.args.at c.sample_before-first.ensures.value c.sample_before-second.ensures.value c.sample_before-third.ensures.value
    c.sample_before-fourth.ensures.value

pub raised-twist-requires : goal.raised-twist-requires
raised-twist-requires c =
    let l = c.loop-i in
    let less = below_240 _ _ c.loop-i-test.true c.requires.few in
    let fit = residual_fits _ _ (l.invariant.so.rest (c.args.at + l.i) (omega arith)) (c.requires.residual (c.args.at + l.i) (pos 0) (omega arith) (omega arith)) in
    twist_held c.args.order l.i less _ _ _ _ _ l.invariant.small fit

pub raised-bend-requires : goal.raised-bend-requires
raised-bend-requires c =
    let l = c.loop-i in
    let twist_fits : SFits w64 c.raised-twist.result = search rules in
    let less = below_240 _ _ c.loop-i-test.true c.requires.few in
    let fit = residual_fits _ _ (l.invariant.so.rest (c.args.at + l.i) (omega arith)) (c.requires.residual (c.args.at + l.i) (pos 0) (omega arith) (omega arith)) in
    let twist = raised c.args.order 4 _ _ c.raised-twist.result twist_fits c.raised-twist.ensures.added c.raised-twist.ensures.passed in
    bend_held c.args.order l.i less _ _ _ _ _ l.invariant.small fit _ twist

pub raised-slope-requires : goal.raised-slope-requires
raised-slope-requires c =
    let l = c.loop-i in
    let twist_fits : SFits w64 c.raised-twist.result = search rules in
    let bend_fits : SFits w64 c.raised-bend.result = search rules in
    let less = below_240 _ _ c.loop-i-test.true c.requires.few in
    let fit = residual_fits _ _ (l.invariant.so.rest (c.args.at + l.i) (omega arith)) (c.requires.residual (c.args.at + l.i) (pos 0) (omega arith) (omega arith)) in
    let twist = raised c.args.order 4 _ _ c.raised-twist.result twist_fits c.raised-twist.ensures.added c.raised-twist.ensures.passed in
    let bend = raised c.args.order 3 _ _ c.raised-bend.result bend_fits c.raised-bend.ensures.added c.raised-bend.ensures.passed in
    slope_held c.args.order l.i less _ _ _ _ _ l.invariant.small fit _ twist _ bend

pub raised-value-requires : goal.raised-value-requires
raised-value-requires c =
    let l = c.loop-i in
    let twist_fits : SFits w64 c.raised-twist.result = search rules in
    let bend_fits : SFits w64 c.raised-bend.result = search rules in
    let slope_fits : SFits w64 c.raised-slope.result = search rules in
    let less = below_240 _ _ c.loop-i-test.true c.requires.few in
    let fit = residual_fits _ _ (l.invariant.so.rest (c.args.at + l.i) (omega arith)) (c.requires.residual (c.args.at + l.i) (pos 0) (omega arith) (omega arith)) in
    let twist = raised c.args.order 4 _ _ c.raised-twist.result twist_fits c.raised-twist.ensures.added c.raised-twist.ensures.passed in
    let bend = raised c.args.order 3 _ _ c.raised-bend.result bend_fits c.raised-bend.ensures.added c.raised-bend.ensures.passed in
    let slope = raised c.args.order 2 _ _ c.raised-slope.result slope_fits c.raised-slope.ensures.added c.raised-slope.ensures.passed in
    value_held c.args.order l.i less _ _ _ _ _ l.invariant.small fit _ twist _ bend _ slope

pub offset_near-wrong-requires-clause-near : goal.offset_near-wrong-requires-clause-near
offset_near-wrong-requires-clause-near c =
    let l = c.loop-i in
    let twist_fits : SFits w64 c.raised-twist.result = search rules in
    let bend_fits : SFits w64 c.raised-bend.result = search rules in
    let slope_fits : SFits w64 c.raised-slope.result = search rules in
    let value_fits : SFits w64 c.raised-value.result = search rules in
    let less = below_240 _ _ c.loop-i-test.true c.requires.few in
    let fit = residual_fits _ _ (l.invariant.so.rest (c.args.at + l.i) (omega arith)) (c.requires.residual (c.args.at + l.i) (pos 0) (omega arith) (omega arith)) in
    let twist = raised c.args.order 4 _ _ c.raised-twist.result twist_fits c.raised-twist.ensures.added c.raised-twist.ensures.passed in
    let bend = raised c.args.order 3 _ _ c.raised-bend.result bend_fits c.raised-bend.ensures.added c.raised-bend.ensures.passed in
    let slope = raised c.args.order 2 _ _ c.raised-slope.result slope_fits c.raised-slope.ensures.added c.raised-slope.ensures.passed in
    let value = raised c.args.order 1 _ _ c.raised-value.result value_fits c.raised-value.ensures.added c.raised-value.ensures.passed in
    value_near c.args.order l.i less _ _ _ _ _ l.invariant.small fit _ twist _ bend _ slope _ value

pub loop-i-preserved : goal.loop-i-preserved
loop-i-preserved c =
    let l = c.loop-i in
    let twist_fits : SFits w64 c.raised-twist.result = search rules in
    let bend_fits : SFits w64 c.raised-bend.result = search rules in
    let slope_fits : SFits w64 c.raised-slope.result = search rules in
    let value_fits : SFits w64 c.raised-value.result = search rules in
    let less = below_240 _ _ c.loop-i-test.true c.requires.few in
    let same = l.invariant.so.rest (c.args.at + l.i) (omega arith) in
    let small = c.requires.residual (c.args.at + l.i) (pos 0) (omega arith) (omega arith) in
    let twist = raised c.args.order 4 _ _ c.raised-twist.result twist_fits c.raised-twist.ensures.added c.raised-twist.ensures.passed in
    let bend = raised c.args.order 3 _ _ c.raised-bend.result bend_fits c.raised-bend.ensures.added c.raised-bend.ensures.passed in
    let slope = raised c.args.order 2 _ _ c.raised-slope.result slope_fits c.raised-slope.ensures.added c.raised-slope.ensures.passed in
    let value = raised c.args.order 1 _ _ c.raised-value.result value_fits c.raised-value.ensures.added c.raised-value.ensures.passed in
    round c.args.order c.args.bits c.args.samples.now l.samples c.args.at l.i l.wrong _ _ _ _ _ _ _ _ _ _ c.requires.order c.requires.enough (omega arith) l.invariant less (kept_near _ _ same small) (residual_fits _ _ same small) twist bend slope value
    c.offset_near-wrong.ensures

pub returns-clause-restored : goal.returns-clause-restored
returns-clause-restored c = let e : c.loop-i.i ≡ c.args.count = omega arith in rw e at c.loop-i.invariant.so

pub returns-clause-fits : goal.returns-clause-fits
returns-clause-fits c =
    let e : c.loop-i.i ≡ c.args.count = omega arith in
    let g = rw e at c.loop-i.invariant in (
      λ t. fit_anywhere c.args.bits c.loop-i.samples _ _ (omega arith) (g.good (c.is_below.ensures.0 t)),
      λ f. c.is_below.ensures.1 (g.only (λ k low high. f k (pos 0) low high)),
    )
