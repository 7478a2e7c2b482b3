use Rattle.flac_ogg.proofs.NativeFrames.{encoded_are_ogg_items}
use Rattle.flac_ogg.proofs.laws.encoded_items.Goals as goal

pub returns : goal.returns
returns c = encoded_are_ogg_items
