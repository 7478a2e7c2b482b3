use Rattle.flac_native.proofs.BlockOrder as order
use Rattle.flac_native.proofs.laws.blocks_are_in_order.Goals as goal

pub returns : goal.returns
returns c = order.blocks_are_in_order
