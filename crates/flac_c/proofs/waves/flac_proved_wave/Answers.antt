use Rattle.flac_c.proofs.waves.flac_proved_wave.Goals as goal

pub returns-in-Err-clause-refused : goal.returns-in-Err-clause-refused
returns-in-Err-clause-refused c = λ _. c.number_of.ensures.number c.args.bytes.now c.in-Err.ensures.fault
