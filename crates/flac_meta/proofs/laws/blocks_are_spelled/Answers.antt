use Rattle.flac_meta.proofs.Blocks.{blocks_spelled, blocks_again}
use Rattle.flac_meta.proofs.laws.blocks_are_spelled.Goals as goal

pub returns : goal.returns
returns c = record { spelled = blocks_spelled; again = blocks_again }
