use Rattle.std.proofs.Common.{rules, ◌≡◌, ◌∙◌, ◌++◌, ap, sym, subst, refl}
use Rattle.flac_cli.specs.inner.WaveRaw.{low_of}
use Rattle.flac_cli.specs.inner.WaveTwice.{StopsStream}
use Rattle.flac_cli.proofs.TakenWaves.{known_part}
use Rattle.flac_cli.proofs.encode_wave_twice.encode_lowered.Goals as goal

pub returns-in-Err-clause-refused : goal.returns-in-Err-clause-refused
returns-in-Err-clause-refused g c = λ known same.
    let P = c.new-lowered.result in
    let f = c.args.form in
    let here : P.source.now ≡ c.args.samples.now = rw c.new-lowered.ensures.source refl in
    let is = ap (λ l. l ++ low_of P.form (g.S.Source.coming P.source.now)) c.new-lowered.ensures.none ∙ (ap (λ k. low_of k (g.S.Source.coming P.source.now)) c.new-lowered.ensures.form ∙ ap (λ s. low_of f (g.S.Source.coming s)) here) in
    let still : g.S.Source.raised c.encode_judged_in-made.new.source.source.now ≡ g.S.Source.raised c.args.samples.now = search rules in
    subst (StopsStream c.args.stream c.in-Err.fault) is
    (c.in-Err.ensures.refused (known_part (g.S.Source.known P.source.now) P.failed (ap g.S.Source.known here ∙ known) c.new-lowered.ensures.whole) (still ∙ sym (ap g.S.Source.raised here)))
