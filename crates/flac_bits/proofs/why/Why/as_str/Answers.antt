use Rattle.std.proofs.Common.{rules}
use Rattle.flac_bits.proofs.why.Why.as_str.Goals as goal

pub returns-in-CueSheet : goal.returns-in-CueSheet
returns-in-CueSheet c = search rules
