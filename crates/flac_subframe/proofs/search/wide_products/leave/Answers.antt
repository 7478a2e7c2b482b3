use Rattle.std.proofs.Common.{w64, ◌≡◌, ◌∙◌, ◌+◌, ◌<◌, ◌^◌, refl, ap, ℤ, ◌-ℤ◌, length, w32, FitsSigned, arith, rules}
use Rattle.std.specs.Int.{int_shr}
use Rattle.std.specs.Int.RustNames.{unsigned_abs}
use Rattle.std.proofs.lemmas.Int.{to_z-of_z}
use Rattle.flac_subframe.specs.format.Numbers.{sample_at}
use Rattle.flac_subframe.proofs.lemmas.format.Lanes.{partly_start, left_fits, left_is, partly_more, partly_end}
use Rattle.flac_subframe.proofs.search.wide_products.leave.Goals as goal

pub loop-index-init : goal.loop-index-init
loop-index-init c = partly_start c.args.order c.args.shift c.args.samples.now c.args.values.now c.args.values.now refl

pub overflow_sub-values : goal.overflow_sub-values
overflow_sub-values c =
    let i = c.loop-index.index in
    let within : i < length c.loop-index.values = omega arith in
    let same = c.loop-index.invariant.left i (omega arith) within in
    let x : ℤ = sample_at c.args.samples.now (c.args.order + i) in
    let fit : FitsSigned w32 x = search rules in
    let from : c.from-sample.result ≡ x = c.from-sample.ensures ∙ to_z-of_z w32 x fit in
    let small : unsigned_abs x + unsigned_abs (sample_at c.loop-index.values i) < 2 ^ 63 = rw same (c.requires.small i (omega arith)) in
    rw from (left_fits w64 x (sample_at c.loop-index.values i) c.args.shift small)

pub loop-index-preserved : goal.loop-index-preserved
loop-index-preserved c =
    let i = c.loop-index.index in
    let within : i < length c.loop-index.values = omega arith in
    let same = c.loop-index.invariant.left i (omega arith) within in
    let x : ℤ = sample_at c.args.samples.now (c.args.order + i) in
    let fit : FitsSigned w32 x = search rules in
    let from : c.from-sample.result ≡ x = c.from-sample.ensures ∙ to_z-of_z w32 x fit in
    let small : unsigned_abs x + unsigned_abs (sample_at c.loop-index.values i) < 2 ^ 63 = rw same (c.requires.small i (omega arith)) in
    let is = left_is w64 x (sample_at c.loop-index.values i) c.args.shift small in
    partly_more c.args.order c.args.shift c.args.samples.now c.args.values.now c.loop-index.values i _ within (rw from is ∙ ap (λ (z : ℤ). x -ℤ int_shr z c.args.shift) same) c.loop-index.invariant

pub returns-clause-values : goal.returns-clause-values
returns-clause-values c = λ j h. partly_end c.args.order c.args.shift c.args.samples.now c.args.values.now c.loop-index.values c.loop-index.index (omega arith) c.loop-index.invariant j (omega arith)
