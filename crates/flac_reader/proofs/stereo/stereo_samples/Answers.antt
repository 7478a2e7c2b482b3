use Rattle.std.proofs.Common.{rules}
use Rattle.flac_reader.proofs.stereo.stereo_samples.Goals as goal

pub returns : goal.returns
returns c = search rules
