use Rattle.std.proofs.Common.{◌++◌, ℕ, Option, Result, Ok, ap, sym, ◌∙◌}
use Rattle.flac_native.specs.declared.fault.Fault.{Fault}
use Rattle.flac_ogg.specs.Fronts.{front_bytes}
use Rattle.flac_ogg.proofs.FirstByte.{first_of}
use Rattle.flac_cli.proofs.Containers.{facts_moved, flaw_moved, container_by, rose}
use Rattle.flac_cli.proofs.verify_facts.read_facts.Goals as goal

abbrev answer : Option ℕ → Result (Option ℕ) Fault
answer o = Ok o

pub returns-in-Ok-clause-facts : goal.returns-in-Ok-clause-facts
returns-in-Ok-clause-facts g c = λ tells.
    let R = g.R.Source in
    let told = c.in-Ok.ensures in
    facts_moved c.args.profile (R.coming c.args.source) (front_bytes c.in-Ok.front ++ R.coming c.pull_front.new.source) (told.bytes tells.0) c.count_facts-found.result.outcome
    (c.count_facts-found.ensures.facts (told.known tells.0, tells.1 ∙ sym told.counted.0, tells.2 ∙ sym told.counted.1))

pub returns-in-Ok-clause-flaw : goal.returns-in-Ok-clause-flaw
returns-in-Ok-clause-flaw g c = λ tells.
    let R = g.R.Source in
    let told = c.in-Ok.ensures in
    flaw_moved c.args.profile (R.coming c.args.source) (front_bytes c.in-Ok.front ++ R.coming c.pull_front.new.source) (told.bytes tells.0) c.count_facts-found.result.outcome
    (c.count_facts-found.ensures.flaw (told.known tells.0, tells.1 ∙ sym told.counted.0, tells.2 ∙ sym told.counted.1))

pub returns-in-Ok-clause-container : goal.returns-in-Ok-clause-container
returns-in-Ok-clause-container g c = λ tells.
    let R = g.R.Source in
    let told = c.in-Ok.ensures in
    container_by (R.coming c.args.source) c.begins_page.result c.count_facts-found.result.outcome
    (c.begins_page.ensures ∙ sym (first_of c.in-Ok.front (R.coming c.pull_front.new.source) (R.coming c.args.source) (told.bytes tells.0) (λ none. told.end (ap answer none) tells.0)))
    c.count_facts-found.ensures.container

pub returns-in-Err-clause-flaw : goal.returns-in-Err-clause-flaw
returns-in-Err-clause-flaw g c = λ tells. rose _ _ (c.in-Err.ensures.rises tells.0) tells.2
