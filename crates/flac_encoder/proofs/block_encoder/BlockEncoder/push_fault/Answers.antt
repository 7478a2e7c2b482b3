use Rattle.std.proofs.Common.{arith}
use Rattle.flac_encoder.proofs.Pushing.{shaped}
use Rattle.flac_encoder.proofs.block_encoder.BlockEncoder.push_fault.Goals as goal

pub block_fault-requires : goal.block_fault-requires
block_fault-requires c = let q = shaped _ c.self.invariant.shape in (omega (arith, q.least_bits), q.bits)
