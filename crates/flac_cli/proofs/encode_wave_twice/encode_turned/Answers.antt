use Rattle.std.proofs.Common.{rules, ◌≡◌, ◌*◌, ◌∙◌, ap, sym, subst, refl}
use Rattle.flac_cli.specs.Waves.{wave_samples}
use Rattle.flac_cli.specs.inner.WaveTwice.{StopsStream}
use Rattle.flac_cli.proofs.encode_wave_twice.encode_turned.Goals as goal

pub returns-in-Err-clause-refused : goal.returns-in-Err-clause-refused
returns-in-Err-clause-refused g c = λ known same.
    let P = c.new-turned.result in
    let here : P.source.now ≡ c.args.samples.now = rw c.new-turned.ensures.source refl in
    let is = ap (λ w. wave_samples (8 * w) (g.S.Source.coming P.source.now)) c.new-turned.ensures.wide ∙ ap (λ s. wave_samples (8 * c.args.wide) (g.S.Source.coming s)) here in
    let still : g.S.Source.raised c.encode_judged_in-made.new.source.source.now ≡ g.S.Source.raised c.args.samples.now = search rules in
    subst (StopsStream c.args.stream c.in-Err.fault) is (c.in-Err.ensures.refused (ap g.S.Source.known here ∙ known) (still ∙ sym (ap g.S.Source.raised here)))
