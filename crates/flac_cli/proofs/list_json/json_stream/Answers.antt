use Rattle.std.proofs.Common.{◌≡◌, ◌≤◌, ℕ, Some, None, ap, subst, arith, inl, inr}
use Rattle.std.proofs.lemmas.Bool.{cases_lt}
use Rattle.flac_cli.specs.Outcomes.{Fits, Reads, IsOutOfMemory}
use Rattle.flac_cli.proofs.list_json.json_stream.Goals as goal

none_of_two : (n : ℕ) → n ≤ 1 → (n ≡ 1 → ⊥) → n ≡ 0
none_of_two n few never = elim (cases_lt 0 n) [ inl some ↦ absurd (never (omega (arith, few, some))) | inr none ↦ omega (arith, none) ]

pub returns-in-Ok-clause-reported : goal.returns-in-Ok-clause-reported
returns-in-Ok-clause-reported g c = λ tells served told.
    let done : c.print_line.result ≡ 0 = none_of_two _ c.print_line.ensures.status (λ is. c.print_line.ensures.failed is served) in
    record {
      outcome = None;
      answer = (done, ap g.E.Target.sent (c.print_line.ensures.silent done));
      fits = subst (λ p. Fits IsOutOfMemory (Reads p (g.R.Source.coming c.args.source.now) (g.R.Source.after c.args.source.now)) None) c.profile_of.ensures (c.in-Ok.ensures.outcome tells);
    }

pub returns-in-Err-clause-reported : goal.returns-in-Err-clause-reported
returns-in-Err-clause-reported g c = λ tells served told. record {
  outcome = Some (Some c.in-Err.fault.at, c.in-Err.fault.why);
  answer = c.refuse.ensures.line told.0 told.1;
  fits = subst (λ p. Fits IsOutOfMemory (Reads p (g.R.Source.coming c.args.source.now) (g.R.Source.after c.args.source.now)) (Some (Some c.in-Err.fault.at, c.in-Err.fault.why))) c.profile_of.ensures (c.in-Err.ensures.outcome tells);
}

pub returns-in-Err-clause-named : goal.returns-in-Err-clause-named
returns-in-Err-clause-named g c = λ is known same. (Some c.in-Err.fault.at, c.in-Err.fault.why, (c.refuse.ensures.line known same).1)
