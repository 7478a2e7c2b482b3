use Rattle.flac_frame.proofs.Joins.{channels_joined}
use Rattle.flac_frame.proofs.PairLeast.{channels_kept}
use Rattle.flac_frame.proofs.laws.channels_are_joined.Goals as goal

pub returns : goal.returns
returns c = record { joined = channels_joined; kept = channels_kept }
