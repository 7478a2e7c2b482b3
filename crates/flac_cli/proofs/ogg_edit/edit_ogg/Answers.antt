use Rattle.flac_cli.proofs.ogg_edit.edit_ogg.Goals as goal

pub returns-in-Ok-clause-edited : goal.returns-in-Ok-clause-edited
returns-in-Ok-clause-edited g c = λ is. c.in-Ok.ensures
