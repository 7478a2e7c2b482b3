use Rattle.std.proofs.Common.{◌≡◌, ◌++◌, drop}
use Rattle.flac_edit.specs.Tagged.{others_of}
use Rattle.flac_edit.proofs.rewriting.others_of.Given as goal

abbrev pub invariant-loop-block : goal.invariant-loop-block
invariant-loop-block l = l.kept.items ++ others_of (drop l.block-index l.blocks) ≡ others_of l.blocks
