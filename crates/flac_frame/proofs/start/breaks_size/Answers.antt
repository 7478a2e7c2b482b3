use Rattle.std.proofs.Common.{rules}
use Rattle.flac_frame.proofs.start.breaks_size.Goals as goal

pub returns-else-before-clause-breaks : goal.returns-else-before-clause-breaks
returns-else-before-clause-breaks c = search rules

pub returns-else-not-variable-clause-breaks : goal.returns-else-not-variable-clause-breaks
returns-else-not-variable-clause-breaks c = search rules
