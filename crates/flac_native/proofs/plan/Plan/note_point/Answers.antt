use Rattle.std.proofs.Common.{arith}
use Rattle.flac_native.proofs.Planned.{planned, block_small}
use Rattle.flac_native.proofs.plan.Plan.note_point.Goals as goal

pub has_point-requires-clause-total : goal.has_point-requires-clause-total
has_point-requires-clause-total c = (planned _ c.self.invariant.good).total

pub overflow_cast-length : goal.overflow_cast-length
overflow_cast-length c = omega (arith, block_small _ (planned _ c.self.invariant.good), c.min-length.ensures)
