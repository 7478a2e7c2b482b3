use Rattle.std.proofs.Common.{arith}
use Rattle.flac_native.proofs.Planned.{planned, block_small}
use Rattle.test_native.proofs.chosen.comes_of.Goals as goal

pub new_in-requires : goal.new_in-requires
new_in-requires c =
    omega (arith, block_small c.args.plan.now (planned c.args.plan.now c.block_size-size.ensures.good), c.block_size-size.ensures.value)
