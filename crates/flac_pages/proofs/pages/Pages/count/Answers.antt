use Rattle.std.proofs.Common.{rules}
use Rattle.flac_pages.proofs.pages.Pages.count.Goals as goal

pub returns : goal.returns
returns g c = search rules
