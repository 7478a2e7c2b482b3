use Rattle.std.proofs.Common.{◌≡◌, drop}
use Rattle.flac_reader.specs.Kept.{first_info}
use Rattle.flac_reader.proofs.head.first_info.Given as goal

abbrev pub invariant-loop-block : goal.invariant-loop-block
invariant-loop-block l = first_info l.blocks ≡ first_info (drop l.block-index l.blocks)
