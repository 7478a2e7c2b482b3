use Rattle.flac_native.proofs.Ordered as order
use Rattle.flac_native.proofs.laws.streams_are_ordered.Goals as goal

pub returns : goal.returns
returns c = order.streams_are_ordered
