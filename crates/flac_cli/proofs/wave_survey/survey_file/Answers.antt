use Rattle.std.proofs.Common.{◌≡◌, ◌∙◌, true, sym, refl}
use Rattle.flac_cli.proofs.TakenWaves.{other_size}
use Rattle.flac_cli.proofs.Surveys.{sized_surveyed, sized_stopped, rest_stopped}
use Rattle.flac_cli.proofs.wave_survey.survey_file.Goals as goal

pub returns-then-states_none-clause-fault : goal.returns-then-states_none-clause-fault
returns-then-states_none-clause-fault g c =
    let front = c.in_ok-front.ensures in
    rest_stopped c.args.to_end c.in_ok-front.front c.in_ok-front.front.size (g.R.Source.coming c.args.source.now) (g.R.Source.coming c.read_front.new.source) (g.R.Source.known c.args.source.now ≡ true) _ front.known front.found
    c.survey_unsized.result _ _ (λ same. same ∙ sym front.counted) c.survey_unsized.ensures.fault

pub returns-clause-found : goal.returns-clause-found
returns-clause-found g c =
    let front = c.in_ok-front.ensures in
    let rest = g.R.Source.coming c.read_front.new.source in
    sized_surveyed c.args.to_end c.in_ok-front.front c.in_ok-front.front.size (g.R.Source.coming c.args.source.now) rest (g.R.Source.known c.args.source.now ≡ true) _ front.known front.found
    c.survey_parts.result (other_size c.args.to_end c.in_ok-front.front rest (sym c.states_none.ensures ∙ c.if-states_none.false)) c.survey_parts.ensures.found

pub returns-clause-fault : goal.returns-clause-fault
returns-clause-fault g c =
    let front = c.in_ok-front.ensures in
    let rest = g.R.Source.coming c.read_front.new.source in
    sized_stopped c.args.to_end c.in_ok-front.front c.in_ok-front.front.size (g.R.Source.coming c.args.source.now) rest (g.R.Source.known c.args.source.now ≡ true) _ front.known front.found
    c.survey_parts.result _ _ (λ same. same ∙ sym front.counted) (other_size c.args.to_end c.in_ok-front.front rest (sym c.states_none.ensures ∙ c.if-states_none.false)) c.survey_parts.ensures.fault
