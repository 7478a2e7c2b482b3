use Rattle.std.proofs.Common.{rules}
use Rattle.flac_pages.proofs.pages.Pages.new.Goals as goal

pub returns-clause-ok : goal.returns-clause-ok
returns-clause-ok g c = search rules
