use Rattle.flac_ogg.proofs.MeaningReadings.{one_ogg_reading}
use Rattle.flac_ogg.proofs.laws.only_one_way.Goals as goal

pub returns : goal.returns
returns c = one_ogg_reading
