use Rattle.std.proofs.Common.{rules}
use Rattle.flac_native.proofs.track.Track.end.Goals as goal

pub returns-clause-judged : goal.returns-clause-judged
returns-clause-judged c = search rules
