use Rattle.std.proofs.Common.{◌≡◌, refl}
use Rattle.flac_chain.proofs.Links.{at_ok, if_err}
use Rattle.flac_cli.proofs.Verifying.{described, counted_facts}
use Rattle.flac_cli.proofs.verify_facts.count_facts.Goals as goal

pub returns-in-Ok-clause-facts : goal.returns-in-Ok-clause-facts
returns-in-Ok-clause-facts g c = λ tells.
    let read = c.decode_chain-source in
    let d = at_ok read.result.outcome c.in-Ok.field-0 c.in-Ok.is (read.ensures.takes (λ old x new h. (λ k. refl, refl)) tells refl) in
    let all = described c.args.profile _ d.0 c.none-facts.result read.new.sink d.1 d.2 c.none-facts.ensures in
    (d.0, d.1, record { frames = all.frames; samples = all.samples; info = all.info; streams = all.streams; no_digest = all.no_digest; no_total = all.no_total })

pub returns-in-Err-clause-flaw : goal.returns-in-Err-clause-flaw
returns-in-Err-clause-flaw g c = λ tells calm.
    let read = c.decode_chain-source in
    let d = if_err _ read.result.outcome _ c.in-Err.is (read.ensures.refused (λ old x new h. (λ k. refl, refl)) tells refl refl) calm in
    (d.0, d.1, d.2, d.3, (counted_facts c.none-facts.result _ read.new.sink d.4 c.none-facts.ensures).1)
