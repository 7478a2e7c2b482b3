use Rattle.std.proofs.Common.{rules}
use Rattle.flac_info.proofs.stream_info.StreamInfo.new.Goals as goal

pub invariant_of-result : goal.invariant_of-result
invariant_of-result c = search rules
