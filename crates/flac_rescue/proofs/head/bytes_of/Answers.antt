use Rattle.std.proofs.Common.{arith, ap, min, ◌+◌, ◌-◌, ◌^◌, ◌∙◌}
use Rattle.flac_rescue.specs.Head.{head_bytes}
use Rattle.flac_rescue.proofs.Heads.{bytes_more, bytes_end}
use Rattle.flac_rescue.proofs.head.bytes_of.Goals as goal

pub loop-block-preserved : goal.loop-block-preserved
loop-block-preserved c = bytes_more c.loop-block.block-index c.loop-block.sum c.saturating_add-sum.result (head_bytes c.args.blocks.now) c.args.blocks.now c.block-item.result (omega arith) c.loop-block.invariant c.block-item.is
    (c.saturating_add-sum.ensures ∙ ap (λ k. min (c.loop-block.sum + (4 + k)) (2 ^ 64 - 1)) c.length.ensures)

pub returns : goal.returns
returns c = bytes_end c.loop-block.block-index c.loop-block.sum (head_bytes c.args.blocks.now) c.args.blocks.now (omega arith) c.loop-block.invariant
