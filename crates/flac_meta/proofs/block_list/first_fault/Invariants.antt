use Rattle.std.proofs.Common.{◌≡◌, drop}
use Rattle.flac_meta.specs.Listed.{list_fault, info_seen}
use Rattle.flac_meta.proofs.block_list.first_fault.Given as goal

abbrev pub invariant-loop-block : goal.invariant-loop-block
invariant-loop-block l = list_fault l.seen (drop l.block-index l.blocks) ≡ list_fault info_seen l.blocks
