use Rattle.std.proofs.Common.{rules}
use Rattle.flac_header.proofs.choice.rate_code.Goals as goal
use Rattle.flac_header.proofs.choice.rate_code.Goals as goal

pub returns-in-24000-clause-fits : goal.returns-in-24000-clause-fits
returns-in-24000-clause-fits c = search rules
