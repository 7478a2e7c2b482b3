use Rattle.std.proofs.Common.{◌≡◌, drop}
use Rattle.flac_cli.specs.Salvages.{lack}
use Rattle.flac_cli.proofs.salvage.lack.Given as goal

abbrev pub invariant-loop-gap : goal.invariant-loop-gap
invariant-loop-gap l = lack (drop l.gap-index l.gaps) ≡ lack l.gaps
