use Rattle.std.proofs.Common.{rules}
use Rattle.flac_native.proofs.targets.FixedBuffer.bytes.Goals as goal

pub returns : goal.returns
returns c = search rules
