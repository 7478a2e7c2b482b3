use Rattle.std.proofs.Common.{rules}
use Rattle.flac_frame.proofs.audio.Audio.channels.Goals as goal

pub returns-clause-items : goal.returns-clause-items
returns-clause-items c = search rules
