use Rattle.std.proofs.Common.{arith, rules, ◌+◌, ◌≤◌, ◌<◌, ℕ, length, refl, w32}
use Rattle.flac_subframe.proofs.lemmas.format.Fours.{one_small, two_small, three_small, four_small, four_held}
use Rattle.flac_subframe.proofs.format.products.add_four.Goals as goal

some : (k n : ℕ) → k + 4 ≤ n → k + 1 ≤ n
some k n h = omega arith

pub plus-one-requires : goal.plus-one-requires
plus-one-requires c =
    let l = c.loop-index in let k = c.args.done in
    let within : l.index < length l.sums = rw l.auto.sums c.loop-index-test.true in
    let cs = c.args.coefficients.now in let s = c.args.samples.now in
    let p = one_small w32 cs s l.sums k l.index (k + 4) c.requires.small within l.invariant (search rules) (search rules) (some k _ c.requires.some) in
    record { product = p.0; sum = p.1 }

pub plus-two-requires : goal.plus-two-requires
plus-two-requires c =
    let l = c.loop-index in let k = c.args.done in
    let within : l.index < length l.sums = rw l.auto.sums c.loop-index-test.true in
    let cs = c.args.coefficients.now in let s = c.args.samples.now in
    let p = two_small w32 cs s l.sums k l.index (k + 4) c.requires.small within l.invariant (search rules) (search rules) c.requires.some
    c.plus-one.result c.plus-one.ensures (search rules) (search rules) in
    record { product = p.0; sum = p.1 }

pub plus-three-requires : goal.plus-three-requires
plus-three-requires c =
    let l = c.loop-index in let k = c.args.done in
    let within : l.index < length l.sums = rw l.auto.sums c.loop-index-test.true in
    let cs = c.args.coefficients.now in let s = c.args.samples.now in
    let p = three_small w32 cs s l.sums k l.index (k + 4) c.requires.small within l.invariant (search rules) (search rules) c.requires.some
    c.plus-one.result c.plus-one.ensures (search rules) (search rules) c.plus-two.result c.plus-two.ensures (search rules) (search rules) in
    record { product = p.0; sum = p.1 }

pub plus-requires : goal.plus-requires
plus-requires c =
    let l = c.loop-index in let k = c.args.done in
    let within : l.index < length l.sums = rw l.auto.sums c.loop-index-test.true in
    let cs = c.args.coefficients.now in let s = c.args.samples.now in
    let p = four_small w32 cs s l.sums k l.index (k + 4) c.requires.small within l.invariant (search rules) (search rules) c.requires.some
    c.plus-one.result c.plus-one.ensures (search rules) (search rules) c.plus-two.result c.plus-two.ensures (search rules) (search rules) c.plus-three.result c.plus-three.ensures (search rules) (search rules) in
    record { product = p.0; sum = p.1 }

pub loop-index-preserved : goal.loop-index-preserved
loop-index-preserved c =
    let l = c.loop-index in let k = c.args.done in
    let within : l.index < length l.sums = rw l.auto.sums c.loop-index-test.true in
    let cs = c.args.coefficients.now in let s = c.args.samples.now in
    four_held w32 cs s l.sums k l.index (k + 4) c.requires.small within l.invariant (search rules) (search rules) c.requires.some
    c.plus-one.result c.plus-one.ensures (search rules) (search rules) c.plus-two.result c.plus-two.ensures (search rules) (search rules) c.plus-three.result c.plus-three.ensures (search rules) (search rules) c.plus.result c.plus.ensures refl
