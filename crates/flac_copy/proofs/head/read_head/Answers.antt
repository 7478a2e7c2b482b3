use Rattle.std.proofs.Common.{rules}
use Rattle.flac_copy.proofs.HeadLemmas.{head_dropped}
use Rattle.flac_copy.proofs.head.read_head.Goals as goal

pub returns-in-Ok-hold : goal.returns-in-Ok-hold
returns-in-Ok-hold g c =
    head_dropped g.R.Source c.args.track.now c.pass_head.new.track _ c.args.again.now c.pass_head.new.again c.hold.new.self c.skip.new.self _ c.pass_head.new.blocks.items c.in-Ok.ensures (search rules)
    c.in-Ok-hold.ensures.held c.skip.ensures.held c.skip.ensures.source c.skip.ensures.fault
