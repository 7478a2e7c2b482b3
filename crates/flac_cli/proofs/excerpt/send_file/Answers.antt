use Rattle.std.proofs.Common.{false, ap, sym, subst, ◌∙◌}
use Rattle.flac_cli.specs.Excerpts.{samples_text}
use Rattle.flac_cli.specs.inner.Excerpts.{SendsSpan, SendsFile}
use Rattle.flac_cli.proofs.excerpt.send_file.Goals as goal

pub returns-then-wave-clause-says : goal.returns-then-wave-clause-says
returns-then-wave-clause-says g c = subst (λ w. SendsFile g.W.Target w c.args.total c.args.reader.now c.send_wave.new.reader c.args.span c.args.target.now c.send_wave.new.target c.send_wave.result) (sym c.if-wave.true) c.send_wave.ensures.says

pub returns-clause-says : goal.returns-clause-says
returns-clause-says g c =
    let says = subst (λ d. SendsSpan g.W.Target (samples_text false d) c.args.reader.now c.send_span.new.reader c.args.span c.args.target.now c.send_span.new.target c.send_span.result) (c.depth-depth.ensures.value ∙ ap (λ i. i.depth) c.info.ensures) c.send_span.ensures.says in
    subst (λ w. SendsFile g.W.Target w c.args.total c.args.reader.now c.send_span.new.reader c.args.span c.args.target.now c.send_span.new.target c.send_span.result) (sym c.if-wave.false) says
