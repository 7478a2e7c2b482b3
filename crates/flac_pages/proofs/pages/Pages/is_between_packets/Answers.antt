use Rattle.std.proofs.Common.{rules}
use Rattle.flac_pages.proofs.pages.Pages.is_between_packets.Goals as goal

pub returns-then-self-eq0-clause-between : goal.returns-then-self-eq0-clause-between
returns-then-self-eq0-clause-between g c = search rules

pub returns-else-self-eq0-clause-between : goal.returns-else-self-eq0-clause-between
returns-else-self-eq0-clause-between g c = search rules
