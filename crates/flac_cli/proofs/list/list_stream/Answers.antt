use Rattle.std.proofs.Common.{Some, None, refl, subst}
use Rattle.flac_cli.specs.Outcomes.{Fits, Reads, IsUnlisted}
use Rattle.flac_cli.specs.Reports.{Serves}
use Rattle.flac_cli.proofs.list.list_stream.Goals as goal

pub returns-in-Ok-clause-reported : goal.returns-in-Ok-clause-reported
returns-in-Ok-clause-reported g c = λ tells told. record {
  outcome = None;
  answer = (refl, refl);
  fits = subst (λ p. Fits (IsUnlisted (Serves g.O.Target c.args.out.now c.list.new.out)) (Reads p (g.R.Source.coming c.args.source.now) (g.R.Source.after c.args.source.now)) None) c.profile_of.ensures (c.in-Ok.ensures.outcome tells);
}

pub returns-in-Err-clause-reported : goal.returns-in-Err-clause-reported
returns-in-Err-clause-reported g c = λ tells told. record {
  outcome = Some (Some c.in-Err.fault.at, c.in-Err.fault.why);
  answer = c.refuse.ensures.line told.0 told.1;
  fits = subst (λ p. Fits (IsUnlisted (Serves g.O.Target c.args.out.now c.list.new.out)) (Reads p (g.R.Source.coming c.args.source.now) (g.R.Source.after c.args.source.now)) (Some (Some c.in-Err.fault.at, c.in-Err.fault.why))) c.profile_of.ensures (c.in-Err.ensures.outcome tells);
}
