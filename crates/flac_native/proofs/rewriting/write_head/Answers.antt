use Rattle.flac_native.proofs.Renewing.{all_added, marker_and_all}
use Rattle.flac_native.proofs.rewriting.write_head.Goals as goal

pub returns : goal.returns
returns g c =
    marker_and_all c.args.blocks.now _ _ _ c.write_each.result c.in_ok-put.ensures (all_added c.args.blocks.now _ _ c.write_each.result c.write_each.ensures.written)
