use Rattle.std.proofs.Common.{◌≡◌, ◌++◌, drop}
use Rattle.flac_cli.specs.Recoded.{carried}
use Rattle.flac_cli.specs.Salvages.{fitting}
use Rattle.flac_cli.proofs.salvage.fitting_blocks.Given as goal

abbrev pub invariant-loop-block : goal.invariant-loop-block
invariant-loop-block l = l.kept.items ++ carried (fitting l.shorter (drop l.block-index l.blocks)) ≡ carried (fitting l.shorter l.blocks)
