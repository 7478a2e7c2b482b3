use Rattle.std.proofs.Common.{◌≡◌, ◌++◌, drop}
use Rattle.std.specs.List.{filter}
use Rattle.flac_copy.specs.Blocks.{is_comment, is_other}
use Rattle.flac_copy.proofs.blocks.ogg_blocks.Given as goal

abbrev pub invariant-loop-block : goal.invariant-loop-block
invariant-loop-block l = record {
  first : l.first.items ++ filter is_comment (drop l.block-index l.blocks) ≡ filter is_comment l.blocks;
  rest : l.rest.items ++ filter is_other (drop l.block-index l.blocks) ≡ filter is_other l.blocks;
}
