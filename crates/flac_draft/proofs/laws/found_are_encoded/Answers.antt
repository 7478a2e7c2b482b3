use Rattle.flac_draft.proofs.FoundLists as lists
use Rattle.flac_draft.proofs.laws.found_are_encoded.Goals as goal

pub returns : goal.returns
returns c = lists.found_are_encoded
