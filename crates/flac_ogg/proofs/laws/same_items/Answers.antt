use Rattle.flac_ogg.proofs.NativeItems.{ogg_streams_are_streams}
use Rattle.flac_ogg.proofs.laws.same_items.Goals as goal

pub returns : goal.returns
returns c = ogg_streams_are_streams
