use Rattle.std.proofs.Common.{◌≡◌, drop}
use Rattle.flac_rescue.specs.Salvaged.{and_missing}
use Rattle.flac_rescue.proofs.salvage.missing_in.Given as goal

abbrev pub invariant-loop-gap : goal.invariant-loop-gap
invariant-loop-gap l = and_missing l.sum (drop l.gap-index l.gaps) ≡ and_missing 0 l.gaps
