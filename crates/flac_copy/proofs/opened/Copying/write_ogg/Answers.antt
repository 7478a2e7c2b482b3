use Rattle.flac_copy.proofs.opened.Copying.write_ogg.Goals as goal

pub returns-clause-written : goal.returns-clause-written
returns-clause-written g c = c.send_ogg.ensures.written
