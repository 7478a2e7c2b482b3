use Rattle.std.proofs.Common.{w32, ◌∙◌, ◌+◌, ◌<◌, ◌^◌, refl, ap, ℤ, ◌-ℤ◌, length, arith}
use Rattle.std.specs.Int.{int_shr}
use Rattle.std.specs.Int.RustNames.{unsigned_abs}
use Rattle.flac_subframe.specs.format.Numbers.{sample_at}
use Rattle.flac_subframe.proofs.lemmas.format.Lanes.{left_start, left_fits, left_is, left_range, left_more, left_values, left_residual, left_folds}
use Rattle.flac_subframe.proofs.format.products.leave.Goals as goal

pub loop-index-init : goal.loop-index-init
loop-index-init c = left_start c.args.order c.args.shift c.args.samples.now c.args.values.now c.args.values.now c.args.folds.now c.requires.folds refl

pub overflow_sub-value : goal.overflow_sub-value
overflow_sub-value c =
    let i = c.loop-index.index in
    let within : i < length c.loop-index.values = omega arith in
    let same = c.loop-index.invariant.left i (omega arith) within in
    let small : unsigned_abs (sample_at c.args.samples.now (c.args.order + i)) + unsigned_abs (sample_at c.loop-index.values i) < 2 ^ 31 = rw same (c.requires.small i (omega arith)) in
    left_fits w32 (sample_at c.args.samples.now (c.args.order + i)) (sample_at c.loop-index.values i) c.args.shift small

pub fold_narrow-requires : goal.fold_narrow-requires
fold_narrow-requires c =
    let i = c.loop-index.index in
    let within : i < length c.loop-index.values = omega arith in
    let same = c.loop-index.invariant.left i (omega arith) within in
    let small : unsigned_abs (sample_at c.args.samples.now (c.args.order + i)) + unsigned_abs (sample_at c.loop-index.values i) < 2 ^ 31 = rw same (c.requires.small i (omega arith)) in
    left_range (sample_at c.args.samples.now (c.args.order + i)) (sample_at c.loop-index.values i) c.args.shift small

pub loop-index-preserved : goal.loop-index-preserved
loop-index-preserved c =
    let i = c.loop-index.index in
    let within : i < length c.loop-index.values = omega arith in
    let same = c.loop-index.invariant.left i (omega arith) within in
    let small : unsigned_abs (sample_at c.args.samples.now (c.args.order + i)) + unsigned_abs (sample_at c.loop-index.values i) < 2 ^ 31 = rw same (c.requires.small i (omega arith)) in
    let is = left_is w32 (sample_at c.args.samples.now (c.args.order + i)) (sample_at c.loop-index.values i) c.args.shift small in
    let range = left_range (sample_at c.args.samples.now (c.args.order + i)) (sample_at c.loop-index.values i) c.args.shift small in
    left_more c.args.order c.args.shift c.args.samples.now c.args.values.now c.loop-index.values c.loop-index.folds (omega arith) i _ _ within (is ∙ ap (λ (z : ℤ). sample_at c.args.samples.now (c.args.order + i) -ℤ int_shr z c.args.shift) same) range c.fold_narrow.ensures.value c.loop-index.invariant

pub returns-clause-values : goal.returns-clause-values
returns-clause-values c = λ j h. left_values c.args.order c.args.shift c.args.samples.now c.args.values.now c.loop-index.values c.loop-index.folds (omega arith) c.loop-index.index (omega arith) c.loop-index.invariant j (omega arith)

pub returns-clause-range : goal.returns-clause-range
returns-clause-range c = left_residual c.args.order c.args.shift c.args.samples.now c.args.values.now c.loop-index.values c.loop-index.folds (omega arith) c.loop-index.index (omega arith) c.loop-index.invariant

pub returns-clause-folds : goal.returns-clause-folds
returns-clause-folds c = left_folds c.args.order c.args.shift c.args.samples.now c.args.values.now c.loop-index.values c.loop-index.folds (omega arith) c.loop-index.index (omega arith) c.loop-index.invariant
