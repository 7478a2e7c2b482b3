use Rattle.flac_copy.proofs.copying.end_copy.Goals as goal

pub returns-in-Ok : goal.returns-in-Ok
returns-in-Ok g c = record { judged = λ p at. c.in_ok-end.ensures.judged p at; sent = c.in-Ok.ensures }
