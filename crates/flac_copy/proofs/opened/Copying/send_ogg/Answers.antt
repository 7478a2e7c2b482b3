use Rattle.std.proofs.lemmas.Result.{on_ok_weaker, IfErr-weaker}
use Rattle.flac_copy.proofs.WrittenLemmas.{sends_ogg, untouched}
use Rattle.flac_copy.proofs.opened.Copying.send_ogg.Goals as goal

pub returns-in-Ok-clause-written : goal.returns-in-Ok-clause-written
returns-in-Ok-clause-written g c =
    on_ok_weaker c.copy_frames.result
    (sends_ogg g.S.Source g.W.Target c.args.serial c.args.self.now c.args.blocks.now c.in-Ok.out c.args.target.now c.begin_ogg.new.target c.copy_frames.new.target
    (c.starts_with.ensures c.if-not-starts_with.false) c.in-Ok.ensures.begins)
    c.copy_frames.ensures.copies

pub returns-in-Ok-clause-blocks : goal.returns-in-Ok-clause-blocks
returns-in-Ok-clause-blocks g c = IfErr-weaker c.copy_frames.result _ _ (untouched c.args.target.now c.copy_frames.new.target) c.copy_frames.ensures.fault
