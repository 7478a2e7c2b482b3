use Rattle.std.proofs.Common.{◌≡◌, ◌+◌, drop}
use Rattle.flac_json.specs.Blocks.{equals_at}
use Rattle.flac_json.proofs.blocks.equals_at.Given as goal

abbrev pub invariant-loop-index : goal.invariant-loop-index
invariant-loop-index l = l.index + equals_at (drop l.index l.comment) ≡ equals_at l.comment
