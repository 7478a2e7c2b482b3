use Rattle.std.proofs.Common.{rules}
use Rattle.flac_info.proofs.stream_info.StreamInfo.depth.Goals as goal

pub returns-clause-value : goal.returns-clause-value
returns-clause-value c = search rules
