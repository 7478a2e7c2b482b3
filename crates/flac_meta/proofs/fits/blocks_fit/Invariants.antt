use Rattle.std.proofs.Common.{drop}
use Rattle.flac_meta.specs.Valid.{AllAre, FitsFields}
use Rattle.flac_meta.proofs.fits.blocks_fit.Given as goal

abbrev pub invariant-loop-block : goal.invariant-loop-block
invariant-loop-block l = AllAre FitsFields (drop l.block-index l.blocks) → AllAre FitsFields l.blocks
