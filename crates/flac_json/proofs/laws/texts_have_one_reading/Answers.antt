use Rattle.flac_json.proofs.Reading.{texts_have_one_reading}
use Rattle.flac_json.proofs.laws.texts_have_one_reading.Goals as goal

pub returns : goal.returns
returns c = texts_have_one_reading
