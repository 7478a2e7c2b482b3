use Rattle.std.proofs.Common.{rules}
use Rattle.flac_reader.proofs.stereo.StereoSamplesIterator.next.Goals as goal

pub returns-clause-steps : goal.returns-clause-steps
returns-clause-steps c = search rules
