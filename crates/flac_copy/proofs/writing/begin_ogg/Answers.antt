use Rattle.std.proofs.Common.{◌++◌, ap, ◌∙◌}
use Rattle.flac_copy.proofs.OggPages.{begins_ogg}
use Rattle.flac_copy.proofs.writing.begin_ogg.Goals as goal

pub returns-in-Ok-send_all-clause-begins : goal.returns-in-Ok-send_all-clause-begins
returns-in-Ok-send_all-clause-begins g c =
    let sends = c.in-Ok-send_all.ensures.sends in
    begins_ogg g.W.Target c.args.serial c.args.info c.args.blocks.now c.in-Ok.headers c.args.target.now c.send_all.new.target c.in-Ok.ensures.made c.in-Ok.ensures.serial sends.known
    (λ k. sends.sent k ∙ ap (λ b. g.W.Target.sent c.args.target.now ++ b) c.as_slice.ensures.value)
