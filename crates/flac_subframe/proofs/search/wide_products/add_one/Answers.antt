use Rattle.std.proofs.Common.{rules, ◌+◌, ◌<◌, length, refl, w64}
use Rattle.flac_subframe.proofs.lemmas.format.Fours.{one_small, one_held}
use Rattle.flac_subframe.proofs.search.wide_products.add_one.Goals as goal

pub plus-requires : goal.plus-requires
plus-requires c =
    let l = c.loop-index in let k = c.args.done in
    let within : l.index < length l.sums = rw l.auto.sums c.loop-index-test.true in
    let cs = c.args.coefficients.now in let s = c.args.samples.now in
    let p = one_small w64 cs s l.sums k l.index (k + 1) c.requires.small within l.invariant (search rules) (search rules) c.requires.some in
    record { product = p.0; sum = p.1 }

pub loop-index-preserved : goal.loop-index-preserved
loop-index-preserved c =
    let l = c.loop-index in let k = c.args.done in
    let within : l.index < length l.sums = rw l.auto.sums c.loop-index-test.true in
    let cs = c.args.coefficients.now in let s = c.args.samples.now in
    one_held w64 cs s l.sums k l.index (k + 1) c.requires.small within l.invariant (search rules) (search rules) c.requires.some
    c.plus.result c.plus.ensures refl
