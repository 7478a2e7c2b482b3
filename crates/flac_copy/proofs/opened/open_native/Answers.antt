use Rattle.std.proofs.lemmas.Result.{IfOk-weaker}
use Rattle.flac_copy.proofs.Opening.{native_opened}
use Rattle.flac_copy.proofs.opened.open_native.Goals as goal

pub returns-in-Ok : goal.returns-in-Ok
returns-in-Ok g c =
    let made = c.new-again.ensures in
    IfOk-weaker c.after_blocks.result _ _ (λ r b.
    native_opened g.S.Source c.args.profile c.args.source c.new-again.result c.read_head.new.again c.new-track.result c.read_head.new.track c.in-Ok.blocks.items r.0.items r.1
    made.0 made.1 made.3 c.new-track.ensures c.in-Ok.ensures b)
    c.after_blocks.ensures
