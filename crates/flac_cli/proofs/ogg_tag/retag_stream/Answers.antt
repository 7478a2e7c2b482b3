use Rattle.std.proofs.Common.{ap, ◌∙◌}
use Rattle.std.proofs.lemmas.Result.{on_ok_weaker}
use Rattle.flac_edit.specs.Tagged.{retagged}
use Rattle.flac_cli.specs.OggEdits.{AreRetagged}
use Rattle.flac_cli.proofs.OggEdits.{remakes}
use Rattle.flac_cli.proofs.ogg_tag.retag_stream.Goals as goal

pub returns-in-Ok-made : goal.returns-in-Ok-made
returns-in-Ok-made g c =
    let made = c.deref-in-Ok-made.ensures.value ∙ c.in-Ok-made.ensures.blocks ∙ ap (retagged c.args.edits.now) c.deref.ensures.value in
    on_ok_weaker c.write_opened.result
    (remakes g.R.Source g.W.Target c.args.source (AreRetagged c.args.edits.now) c.in-Ok.opened.0.items c.deref-in-Ok-made.result.now c.in-Ok.opened.1 c.args.target.now c.write_opened.new.target c.in-Ok.ensures made)
    c.write_opened.ensures
