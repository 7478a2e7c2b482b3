use Rattle.std.proofs.Common.{◌<◌, ◌*◌, ◌∙◌, ap, subst, arith}
use Rattle.std.proofs.Math.Nat.{mul_comm}
use Rattle.flac_frame.specs.Audio.{samples_each}
use Rattle.flac_native.specs.Given.{Cut}
use Rattle.flac_native.proofs.Encoded.{least_part}
use Rattle.flac_native.proofs.Gathered.{range_is}
use Rattle.flac_native.proofs.Planned.{Planned, planned, fit}
use Rattle.flac_native.proofs.plan.Plan.range.Goals as goal

pub overflow_mul-start : goal.overflow_mul-start
overflow_mul-start c =
    let p = c.args.self.now in
    let q = subst Planned c.self.view_is (planned _ c.self.invariant.good) in
    let block = ap (λ (x : Cut). x.block_size) c.self.view_is in
    let start = mul_comm c.args.number c.self.inside.asked.block_size ∙ ap (λ k. k * c.args.number) block in
    let at : p.block_size * c.args.number < samples_each c.args.audio.now.channels = least_part p.block_size _ c.args.number q.least c.requires.few in
    omega (arith, start, at, c.len-total.ensures)

pub overflow_sub-total : goal.overflow_sub-total
overflow_sub-total c =
    let p = c.args.self.now in
    let q = subst Planned c.self.view_is (planned _ c.self.invariant.good) in
    let block = ap (λ (x : Cut). x.block_size) c.self.view_is in
    let start = mul_comm c.args.number c.self.inside.asked.block_size ∙ ap (λ k. k * c.args.number) block in
    let at : p.block_size * c.args.number < samples_each c.args.audio.now.channels = least_part p.block_size _ c.args.number q.least c.requires.few in
    omega (arith, start, at, c.len-total.ensures)

pub returns-clause-range : goal.returns-clause-range
returns-clause-range c =
    let p = c.args.self.now in
    let a = c.args.audio.now in
    let block = ap (λ (x : Cut). x.block_size) c.self.view_is in
    let start = mul_comm c.args.number c.self.inside.asked.block_size ∙ ap (λ k. k * c.args.number) block in
    range_is p a c.args.number _ _ (subst Planned c.self.view_is (planned _ c.self.invariant.good)) (fit p a c.requires.fits) c.requires.few start (omega (arith, c.min.ensures, c.len-total.ensures, block))
