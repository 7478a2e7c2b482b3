use Rattle.std.proofs.Common.{◌∙◌, sym, subst, rules}
use Rattle.flac_bits.specs.Handing.{outcome_of}
use Rattle.flac_cli.specs.inner.Outcomes.{at_place}
use Rattle.flac_cli.specs.Outcomes.{Fits, IsUnlisted, Reads}
use Rattle.flac_cli.specs.Reports.{Serves}
use Rattle.flac_cli.proofs.list.list.Goals as goal

pub list_into-outcome-requires-clause-none : goal.list_into-outcome-requires-clause-none
list_into-outcome-requires-clause-none g c = c.new-sink.ensures.failures

pub list_into-outcome-requires-clause-began : goal.list_into-outcome-requires-clause-began
list_into-outcome-requires-clause-began g c = c.new-sink.ensures.began ∙ sym c.new-sink.ensures.target

pub returns-clause-stream : goal.returns-clause-stream
returns-clause-stream g c = c.list_into-outcome.ensures.stream

pub returns-clause-outcome : goal.returns-clause-outcome
returns-clause-outcome g c tells =
    subst (λ out. Fits (IsUnlisted (Serves g.O.Target c.args.out.now out)) (Reads c.args.profile (g.R.Source.coming c.args.source.now) (g.R.Source.after c.args.source.now)) (outcome_of at_place c.list_into-outcome.result)) (search rules)
    (rw c.new-sink.ensures.target at (c.list_into-outcome.ensures.outcome tells))
