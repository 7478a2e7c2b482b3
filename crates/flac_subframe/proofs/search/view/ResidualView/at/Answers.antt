use Rattle.std.proofs.Common.{arith}
use Rattle.flac_subframe.proofs.lemmas.search.Splits.{halves_at}
use Rattle.flac_subframe.proofs.search.view.ResidualView.at.Goals as goal

pub invariant_of-result : goal.invariant_of-result
invariant_of-result c =
    let r = c.args.self.now in
    record { few = r.few; range = r.range; unsigned = r.unsigned; small = r.small; long = r.long; most = omega (arith, r.most, c.requires); halves = halves_at r.order r.values.now r.partition_order c.args.partition_order c.requires r.halves }
