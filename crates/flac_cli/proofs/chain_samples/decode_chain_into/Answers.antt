use Rattle.std.proofs.Common.{◌≡◌, ◌∙◌, sym}
use Rattle.std.proofs.lemmas.Result.{IfErr-weaker}
use Rattle.flac_cli.proofs.Outcomes.{then_ok}
use Rattle.flac_cli.proofs.ChainSampled.{all_sent, one_format, steady, fresh_known, fresh_none}
use Rattle.flac_cli.proofs.chain_samples.decode_chain_into.Goals as goal

pub returns-clause-written : goal.returns-clause-written
returns-clause-written g c = λ tells.
    let h = g.W.Target in
    let old = c.args.sink.now in
    let new = c.decode_chain.new.sink in
    then_ok c.decode_chain.result.outcome (c.decode_chain.ensures.takes (steady h) tells (fresh_known h old c.requires.fresh))
    (λ d. (d.0, d.1, (one_format h old _ new d.2 c.requires.fresh, λ known. all_sent h old _ new d.2 c.requires.fresh known)))

pub returns-clause-refused : goal.returns-clause-refused
returns-clause-refused g c = λ tells none.
    let h = g.W.Target in
    let old = c.args.sink.now in
    IfErr-weaker c.decode_chain.result.outcome _ _ (λ f refused other. let d = refused other in (d.0, d.1, d.2, d.3))
    (c.decode_chain.ensures.refused (steady h) tells (fresh_known h old c.requires.fresh) (none ∙ sym (fresh_none h old c.requires.fresh)))
