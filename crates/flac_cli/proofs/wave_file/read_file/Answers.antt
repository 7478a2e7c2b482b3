use Rattle.std.proofs.Common.{◌≡◌, ◌∙◌, true, sym}
use Rattle.flac_cli.proofs.TakenWaves.{other_size, sized_taken, sized_refused, rest_refused}
use Rattle.flac_cli.proofs.wave_file.read_file.Goals as goal

pub returns-then-states_none-clause-fault : goal.returns-then-states_none-clause-fault
returns-then-states_none-clause-fault g c =
    let front = c.in_ok-front.ensures in
    rest_refused c.args.to_end c.in_ok-front.front c.in_ok-front.front.size (g.R.Source.coming c.args.source.now) (g.R.Source.coming c.read_front.new.source) (g.R.Source.known c.args.source.now ≡ true) _ front.known front.found
    c.read_unsized.result _ _ (λ same. same ∙ sym front.counted) c.read_unsized.ensures.fault

pub returns-clause-taken : goal.returns-clause-taken
returns-clause-taken g c =
    let front = c.in_ok-front.ensures in
    let rest = g.R.Source.coming c.read_front.new.source in
    sized_taken c.args.to_end c.in_ok-front.front c.in_ok-front.front.size (g.R.Source.coming c.args.source.now) rest (g.R.Source.known c.args.source.now ≡ true) _ front.known front.found
    c.read_parts.result (other_size c.args.to_end c.in_ok-front.front rest (sym c.states_none.ensures ∙ c.if-states_none.false)) c.read_parts.ensures.taken

pub returns-clause-fault : goal.returns-clause-fault
returns-clause-fault g c =
    let front = c.in_ok-front.ensures in
    let rest = g.R.Source.coming c.read_front.new.source in
    sized_refused c.args.to_end c.in_ok-front.front c.in_ok-front.front.size (g.R.Source.coming c.args.source.now) rest (g.R.Source.known c.args.source.now ≡ true) _ front.known front.found
    c.read_parts.result _ _ (λ same. same ∙ sym front.counted) (other_size c.args.to_end c.in_ok-front.front rest (sym c.states_none.ensures ∙ c.if-states_none.false)) c.read_parts.ensures.fault
