use Rattle.flac_draft.proofs.Drafting as drafting
use Rattle.flac_draft.proofs.laws.drafts_are_encoded.Goals as goal

pub returns : goal.returns
returns c = drafting.drafts_are_encoded
