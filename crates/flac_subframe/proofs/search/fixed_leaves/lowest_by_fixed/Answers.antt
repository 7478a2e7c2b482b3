use Rattle.std.proofs.Common.{arith, ◌≡◌, ◌+◌, ◌<◌, ◌^◌}
use Rattle.flac_subframe.proofs.lemmas.search.Greater.{at_place}
use Rattle.flac_subframe.proofs.search.fixed_leaves.lowest_by_fixed.Goals as goal

pub returns-clause-widths : goal.returns-clause-widths
returns-clause-widths c = λ less p j low high b.
    let e : p ≡ c.args.partition_order = omega arith in
    let b' : j < 2 ^ c.args.partition_order = rw e at b in
    let is : 2 ^ c.args.partition_order + j ≡ c.power-first.result + j = omega arith in
    rw (e, at_place c.power-first.result (2 ^ c.args.partition_order + j) j c.args.widths.now c.leaves_by_fixed.new.widths _ (omega arith) is (omega arith)) (c.leaves_by_fixed.ensures.widths less j b', c.leaves_by_fixed.ensures.small less j b')
