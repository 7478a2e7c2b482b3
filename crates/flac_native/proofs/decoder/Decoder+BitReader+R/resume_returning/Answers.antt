use Rattle.std.proofs.Common.{rules}
use Rattle.flac_native.proofs.decoder.Decoder+BitReader+R.resume_returning.Goals as goal

pub returns-in-Ok-clause-track : goal.returns-in-Ok-clause-track
returns-in-Ok-clause-track g c = search rules

pub returns-in-Ok-clause-course : goal.returns-in-Ok-clause-course
returns-in-Ok-clause-course g c = search rules

pub returns-in-Ok-clause-known : goal.returns-in-Ok-clause-known
returns-in-Ok-clause-known g c = search rules

pub returns-in-Ok-clause-errors : goal.returns-in-Ok-clause-errors
returns-in-Ok-clause-errors g c = search rules

pub returns-in-Ok-clause-cursor : goal.returns-in-Ok-clause-cursor
returns-in-Ok-clause-cursor g c = search rules

pub returns-in-Ok-clause-memory : goal.returns-in-Ok-clause-memory
returns-in-Ok-clause-memory g c = search rules
