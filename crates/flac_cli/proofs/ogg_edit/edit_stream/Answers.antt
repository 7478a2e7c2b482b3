use Rattle.std.proofs.Common.{List, subst, ◌∙◌}
use Rattle.flac_meta.specs.declared.block.Block.{Block}
use Rattle.flac_cli.specs.OggEdits.{AreEdited}
use Rattle.flac_cli.proofs.OggEdits.{remakes}
use Rattle.flac_cli.proofs.ogg_edit.edit_stream.Goals as goal

pub returns-in-Ok-write_opened : goal.returns-in-Ok-write_opened
returns-in-Ok-write_opened g c =
    let given = c.deref-2.result.now in
    let made = subst (λ (list : List Block). AreEdited c.args.edits.now list given) c.deref.ensures.value (record {
      allowed = c.in-Ok-made.ensures.judged;
      edited = c.deref-2.ensures.value ∙ c.in-Ok-made.ensures.made;
    }) in
    remakes g.R.Source g.W.Target c.args.source (AreEdited c.args.edits.now) c.in-Ok.opened.0.items given c.in-Ok.opened.1 c.args.target.now c.write_opened.new.target c.in-Ok.ensures made c.in-Ok-write_opened.ensures
