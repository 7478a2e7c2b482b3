use Rattle.std.proofs.Common.{◌≡◌, drop}
use Rattle.flac_rescue.specs.Head.{and_blocks, head_bytes}
use Rattle.flac_rescue.proofs.head.bytes_of.Given as goal

abbrev pub invariant-loop-block : goal.invariant-loop-block
invariant-loop-block l = and_blocks l.sum (drop l.block-index l.blocks) ≡ head_bytes l.blocks
