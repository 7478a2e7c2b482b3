use Rattle.std.proofs.Common.{rules}
use Rattle.flac_native.proofs.chosen_frames.ChosenFrames.room.Goals as goal

pub returns-clause-places : goal.returns-clause-places
returns-clause-places c = search rules
