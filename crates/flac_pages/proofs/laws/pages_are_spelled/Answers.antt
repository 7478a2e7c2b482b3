use Rattle.flac_pages.proofs.PageTie.{pages_spelled, pages_again}
use Rattle.flac_pages.proofs.laws.pages_are_spelled.Goals as goal

pub returns : goal.returns
returns c = record { spelled = pages_spelled; again = pages_again }
