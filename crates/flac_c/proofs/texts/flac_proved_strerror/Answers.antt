use Rattle.std.proofs.Common.{rules}
use Rattle.flac_c.proofs.texts.flac_proved_strerror.Goals as goal

pub returns-in-Some-clause-reason : goal.returns-in-Some-clause-reason
returns-in-Some-clause-reason c = search rules
