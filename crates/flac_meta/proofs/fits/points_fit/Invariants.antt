use Rattle.std.proofs.Common.{drop}
use Rattle.flac_meta.specs.Valid.{AllAre, IsPoint}
use Rattle.flac_meta.proofs.fits.points_fit.Given as goal

abbrev pub invariant-loop-point : goal.invariant-loop-point
invariant-loop-point l = AllAre IsPoint (drop l.point-index l.points) → AllAre IsPoint l.points
