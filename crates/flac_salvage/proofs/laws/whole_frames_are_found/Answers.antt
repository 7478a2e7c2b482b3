use Rattle.flac_salvage.proofs.Founds.{none_is_missed, each_is_told, none_is_both, found_once}
use Rattle.flac_salvage.proofs.laws.whole_frames_are_found.Goals as goal

pub returns : goal.returns
returns c = record { missed = none_is_missed; told = each_is_told; both = none_is_both; once = found_once }
