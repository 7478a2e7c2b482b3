use Rattle.flac_native.proofs.Passing.{calls_break_after}
use Rattle.flac_native.proofs.laws.failures_are_placed.Goals as goal

pub returns : goal.returns
returns g c = calls_break_after g.C.Container
