use Rattle.std.proofs.Common.{Some, None, refl}
use Rattle.flac_cli.proofs.list.run_list.Goals as goal

pub returns-in-Ok-clause-reported : goal.returns-in-Ok-clause-reported
returns-in-Ok-clause-reported g c = λ tells told. record {
  outcome = None;
  answer = (refl, refl);
  fits = c.in-Ok.ensures.outcome tells;
}

pub returns-in-Err-clause-reported : goal.returns-in-Err-clause-reported
returns-in-Err-clause-reported g c = λ tells told. record {
  outcome = Some (Some c.in-Err.fault.at, c.in-Err.fault.why);
  answer = c.refuse.ensures.line told.0 told.1;
  fits = c.in-Err.ensures.outcome tells;
}
