use Rattle.std.proofs.Common.{rules}
use Rattle.flac_native.proofs.track.Track.block_by_layout.Goals as goal

pub returns-in-Ok-clause-next : goal.returns-in-Ok-clause-next
returns-in-Ok-clause-next g c = search rules
