use Rattle.std.proofs.Common.{rules}
use Rattle.flac_native.proofs.fault.EncodeFault.number.Goals as goal

pub returns-in-Write : goal.returns-in-Write
returns-in-Write c = search rules
