use Rattle.std.proofs.Common.{◌++◌, ap, ◌∙◌}
use Rattle.std.proofs.lemmas.Result.{on_ok_weaker, IfErr-weaker}
use Rattle.flac_copy.proofs.WrittenLemmas.{sends_native, untouched}
use Rattle.flac_copy.proofs.opened.Copying.send_native.Goals as goal

pub returns-in-Ok-sent-clause-written : goal.returns-in-Ok-sent-clause-written
returns-in-Ok-sent-clause-written g c =
    let sends = c.in-Ok-sent.ensures.sends in
    on_ok_weaker c.copy_frames.result
    (sends_native g.S.Source g.W.Target c.args.self.now c.args.blocks.now c.in-Ok.head.items c.args.target.now c.send_all-sent.new.target c.copy_frames.new.target c.in-Ok.ensures sends.known
    (λ k. sends.sent k ∙ ap (λ b. g.W.Target.sent c.args.target.now ++ b) c.as_slice.ensures.value))
    c.copy_frames.ensures.copies

pub returns-in-Ok-sent-clause-blocks : goal.returns-in-Ok-sent-clause-blocks
returns-in-Ok-sent-clause-blocks g c = IfErr-weaker c.copy_frames.result _ _ (untouched c.args.target.now c.copy_frames.new.target) c.copy_frames.ensures.fault
