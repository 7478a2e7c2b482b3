use Rattle.flac_ogg.proofs.MeaningReadings.{some_ogg_reading}
use Rattle.flac_ogg.proofs.laws.some_way.Goals as goal

pub returns : goal.returns
returns c = some_ogg_reading
