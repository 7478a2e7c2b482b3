use Rattle.flac_encoder.proofs.Pushing.{shaped}
use Rattle.flac_encoder.proofs.block_encoder.BlockEncoder.set_search.Goals as goal

pub new-requires : goal.new-requires
new-requires c = let q = shaped _ c.self.invariant.shape in q.small
