use Rattle.flac_subframe.proofs.lemmas.search.Family.{none_within}
use Rattle.flac_frame.proofs.encode.encode_frame.Goals as goal

pub encode_frame_with-requires-clause-orders : goal.encode_frame_with-requires-clause-orders
encode_frame_with-requires-clause-orders g c = none_within _
