use Rattle.flac_whole_pages.proofs.Founds.{none_is_missed, found_are_in_order, found_once}
use Rattle.flac_whole_pages.proofs.laws.whole_pages_are_found.Goals as goal

pub returns : goal.returns
returns c = record { missed = none_is_missed; order = found_are_in_order; once = found_once }
