use Rattle.std.proofs.Common.{rules}
use Rattle.flac_native.proofs.chosen_frames.ChosenFrames.greatest.Goals as goal

pub returns : goal.returns
returns c = search rules
