use Rattle.std.proofs.Common.{arith}
use Rattle.flac_subframe.proofs.lemmas.search.Folds.{cost_split}
use Rattle.flac_subframe.proofs.search.cost.weigh.Goals as goal

pub returns-then-bits-lt268435456-clause-value : goal.returns-then-bits-lt268435456-clause-value
returns-then-bits-lt268435456-clause-value c =
    omega (arith, c.from.ensures, c.quotients_in_lanes-sum.ensures, c.if-folds-eq16.true, cost_split 0 c.args.folds.now)

pub quotients_in_lanes-sum-requires-clause-bounded : goal.quotients_in_lanes-sum-requires-clause-bounded
quotients_in_lanes-sum-requires-clause-bounded c = (c.bits_in_lanes-bits.ensures 28).1 (omega (arith, c.if-bits-lt268435456.true))
