use Rattle.std.proofs.Common.{rules}
use Rattle.flac_frame.proofs.audio.Audio.into_channels.Goals as goal

pub returns : goal.returns
returns c = search rules
