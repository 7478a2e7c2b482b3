use Rattle.flac_edit.proofs.TaggedFiles.{others_more}
use Rattle.flac_edit.proofs.rewriting.others_of.Goals as goal

pub loop-block-preserved : goal.loop-block-preserved
loop-block-preserved c = others_more c.args.blocks.now c.loop-block.block-index c.block-item.result c.loop-block.kept.items _ c.loop-block-test.true c.block-item.is c.in_ok-keep_other.ensures c.loop-block.invariant
