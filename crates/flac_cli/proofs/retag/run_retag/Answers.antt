use Rattle.std.proofs.Common.{Some, None, refl, subst}
use Rattle.flac_cli.specs.Outcomes.{IsAnswer}
use Rattle.flac_cli.proofs.Reported.{of_input}
use Rattle.flac_cli.proofs.NamedLines.{named}
use Rattle.flac_cli.proofs.Jobs.{not_both}
use Rattle.flac_cli.proofs.retag.run_retag.Goals as goal

pub returns-in-Ok-clause-reported : goal.returns-in-Ok-clause-reported
returns-in-Ok-clause-reported g c = λ tells served told. record {
  outcome = None;
  answer = (refl, refl);
  fits = c.in-Ok.ensures.outcome tells served;
}

pub returns-in-Err-clause-reported : goal.returns-in-Err-clause-reported
returns-in-Err-clause-reported g c = λ tells served told.
    let path = of_input c.is_of_target.result c.at_fault-path.result.now c.args.paths.now.output.now c.args.paths.now.input.now (λ is. c.in-Err.ensures.served served (c.is_of_target.ensures.0 is)) c.at_fault-path.ensures in
    record {
      outcome = Some (c.in-Err.fault.at, c.in-Err.fault.why);
      answer = subst (λ p. IsAnswer (Some (c.in-Err.fault.at, c.in-Err.fault.why)) p c.refuse.result (g.E.Target.sent c.args.err.now) (g.E.Target.sent c.refuse.new.err)) path (c.refuse.ensures.line told.0 told.1);
      fits = c.in-Err.ensures.outcome tells served;
    }

pub returns-in-Ok-clause-named : goal.returns-in-Ok-clause-named
returns-in-Ok-clause-named g c = λ failed known same. not_both _ failed refl

pub returns-in-Err-clause-named : goal.returns-in-Err-clause-named
returns-in-Err-clause-named g c = λ failed known same.
    (c.in-Err.fault, named _ _ _ _ c.is_of_target.result _ c.is_of_target.ensures _ c.at_fault-path.ensures _ (c.refuse.ensures.line known same).1)
