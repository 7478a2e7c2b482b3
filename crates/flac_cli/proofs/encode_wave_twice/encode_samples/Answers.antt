use Rattle.std.proofs.Common.{◌≡◌, ◌≤◌, ◌<◌, ◌*◌, ◌-◌, ◌∙◌, ap, sym, subst, IfErr, arith}
use Rattle.flac_cli.specs.Calls.{IfRead}
use Rattle.flac_cli.specs.inner.WaveRaw.{low_of}
use Rattle.flac_cli.specs.inner.WaveTwice.{StopsStream}
use Rattle.flac_cli.proofs.WaveTwices.{whole_stream, low_stream}
use Rattle.flac_cli.proofs.encode_wave_twice.encode_samples.Goals as goal

pub returns-then-shift-eq0-clause-refused : goal.returns-then-shift-eq0-clause-refused
returns-then-shift-eq0-clause-refused g c =
    let bytes = g.S.Source.coming c.args.samples.now in
    let r = c.requires in
    let few = r.few in
    subst (λ l. IfErr c.encode_turned.result (λ e. IfRead g.S.Source c.args.samples.now c.encode_turned.new.samples (λ _. StopsStream c.args.stream e l)))
    (sym (whole_stream c.args.form.0 c.args.form.1 bytes (omega (arith, few, c.if-shift-eq0.true)))) c.encode_turned.ensures.refused

pub returns-clause-refused : goal.returns-clause-refused
returns-clause-refused g c =
    let bytes = g.S.Source.coming c.args.samples.now in
    let wide = c.args.form.0 in
    let depth = c.args.form.1 in
    let r = c.requires in
    let few = r.few in
    let is = low_stream wide depth bytes r (omega (arith, few, c.if-shift-eq0.false)) ∙ ap (λ w. low_of (record { wide = wide; width = w; shift = 8 * wide - depth }) bytes) (sym c.sample_width-width.ensures) in
    subst (λ l. IfErr c.encode_lowered.result (λ e. IfRead g.S.Source c.args.samples.now c.encode_lowered.new.samples (λ _. StopsStream c.args.stream e l))) (sym is) c.encode_lowered.ensures.refused
