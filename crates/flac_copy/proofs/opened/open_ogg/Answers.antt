use Rattle.std.proofs.lemmas.Result.{IfOk-weaker}
use Rattle.std.proofs.Common.{◌∙◌}
use Rattle.flac_copy.proofs.Opening.{ogg_opened, replayed_front}
use Rattle.flac_copy.proofs.opened.open_ogg.Goals as goal

pub returns-in-Ok-read_headers : goal.returns-in-Ok-read_headers
returns-in-Ok-read_headers g c =
    let made = c.new-again.ensures in
    IfOk-weaker c.after_blocks.result _ _ (λ r b.
    ogg_opened g.S.Source c.args.profile c.args.source c.new-again.result c.find_serial.new.again c.in-Ok.serial c.in-Ok-new.pages c.read_headers.new.pages c.new-track.result c.read_headers.new.track c.in-Ok-read_headers.blocks.items r.0.items r.1
    made.0 made.1 c.in-Ok.ensures (c.in-Ok-new.ensures.ok ∙ replayed_front g.S.Source c.new.result c.find_serial.new.again c.new.ensures) c.new-track.ensures c.in-Ok-read_headers.ensures b)
    c.after_blocks.ensures
