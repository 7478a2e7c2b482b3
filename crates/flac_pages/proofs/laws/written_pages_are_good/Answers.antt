use Rattle.flac_pages.proofs.PlacedPages.{written_pages_are_good}
use Rattle.flac_pages.proofs.laws.written_pages_are_good.Goals as goal

pub returns : goal.returns
returns c = written_pages_are_good
