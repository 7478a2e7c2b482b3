use Rattle.flac_salvage.proofs.Finals.{refusals_are_final}
use Rattle.flac_salvage.proofs.Locals.{frames_are_local}
use Rattle.flac_salvage.proofs.laws.frames_are_local.Goals as goal

pub returns : goal.returns
returns c = record { local = frames_are_local; last = refusals_are_final }
