use Rattle.std.proofs.Common.{arith, ◌≡◌, ◌+◌, ◌<◌, ◌^◌}
use Rattle.flac_subframe.proofs.lemmas.search.Greater.{at_place}
use Rattle.flac_subframe.proofs.search.widths.lowest.Goals as goal

pub returns-clause-widths : goal.returns-clause-widths
returns-clause-widths c = λ p j low high b.
    let e : p ≡ c.args.residual.now.partition_order = omega arith in
    let b' : j < 2 ^ c.args.residual.now.partition_order = rw e at b in
    let is : 2 ^ c.args.residual.now.partition_order + j ≡ c.power-first.result + j = omega arith in
    rw (e, at_place c.power-first.result (2 ^ c.args.residual.now.partition_order + j) j c.args.widths.now c.leaves.new.widths _ (omega arith) is (omega arith)) (c.leaves.ensures.widths j b', c.leaves.ensures.small j b')
