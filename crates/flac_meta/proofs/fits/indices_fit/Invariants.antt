use Rattle.std.proofs.Common.{drop}
use Rattle.flac_meta.specs.Valid.{AllAre, IsIndex}
use Rattle.flac_meta.proofs.fits.indices_fit.Given as goal

abbrev pub invariant-loop-index : goal.invariant-loop-index
invariant-loop-index l = AllAre IsIndex (drop l.index-index l.indices) → AllAre IsIndex l.indices
