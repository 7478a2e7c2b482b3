use Rattle.std.proofs.Common.{rules}
use Rattle.flac_native.proofs.track.Track.view.Goals as goal

pub unreachable-requires : goal.unreachable-requires
unreachable-requires c = search rules
