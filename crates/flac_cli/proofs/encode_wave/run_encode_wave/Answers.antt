use Rattle.std.proofs.Common.{◌⊎◌, ◌++◌, Some, None, refl, ap, ◌∙◌, subst, inl, arith}
use Rattle.flac_cli.specs.Asked.{asked_of}
use Rattle.flac_cli.specs.Reports.{fault_line, files_of}
use Rattle.flac_cli.specs.WaveRefusals.{wave_text, IsOutside, IsWaveReason}
use Rattle.flac_cli.specs.declared.encode_wave.WaveRefusal.TheVariants.{Wave, Refused}
use Rattle.flac_cli.proofs.Jobs.{not_both}
use Rattle.flac_cli.proofs.WaveRefused.{not_wave, wave_reported}
use Rattle.flac_cli.proofs.encode_wave.run_encode_wave.Goals as goal

pub returns-in-Ok : goal.returns-in-Ok
returns-in-Ok g c =
    let e = c.in-Ok.ensures in
    record {
      status = omega arith;
      encoded = λ done known sent. e.written known sent;
      accepted = λ done known. e.accepted known;
      begun = λ failed known sent. not_both _ failed refl;
      refused = λ tells served told. inl (None, e.accepted tells.0, (refl, refl));
      named = λ failed known same. not_both _ failed refl;
    }

pub returns-in-Wave-clause-refused : goal.returns-in-Wave-clause-refused
returns-in-Wave-clause-refused g c = λ tells served told.
    let asked = asked_of c.args.encoding.now in
    let bytes = g.R.Source.coming c.args.source.now in
    let line = c.refuse_wave.ensures.line told.0 told.1 ∙ ap (λ p. g.E.Target.sent c.args.err.now ++ fault_line p (wave_text (Wave c.in-Wave.fault))) c.input.ensures in
    let reason = subst (λ e. IsOutside e ⊎ IsWaveReason asked bytes (Some e)) c.in-Wave.is (c.in-Err.ensures.refused tells.0 tells.2) in
    wave_reported asked bytes (files_of c.args.job.now) (Wave c.in-Wave.fault) _ _ _ c.refuse_wave.ensures.status line (λ is. not_wave _ _ is) reason

pub returns-in-Refused-clause-refused : goal.returns-in-Refused-clause-refused
returns-in-Refused-clause-refused g c = λ tells served told.
    let asked = asked_of c.args.encoding.now in
    let bytes = g.R.Source.coming c.args.source.now in
    let reason = subst (λ e. IsOutside e ⊎ IsWaveReason asked bytes (Some e)) c.in-Refused.is (c.in-Err.ensures.refused tells.0 tells.2) in
    wave_reported asked bytes (files_of c.args.job.now) (Refused c.in-Refused.reason) _ _ _ c.refuse_encoding.ensures.status
    (c.refuse_encoding.ensures.line told.0 told.1) (λ is. omega (arith, c.in-Err.ensures.failed (c.in-Refused.is ∙ is) served.0, served.1)) reason

pub returns-in-Wave-clause-named : goal.returns-in-Wave-clause-named
returns-in-Wave-clause-named g c = λ one known same. (
  Wave c.in-Wave.fault,
  c.refuse_wave.ensures.line known same ∙ ap (λ p. g.E.Target.sent c.args.err.now ++ fault_line p (wave_text (Wave c.in-Wave.fault))) c.input.ensures,
)

pub returns-in-Refused-clause-named : goal.returns-in-Refused-clause-named
returns-in-Refused-clause-named g c = λ one known same. (Refused c.in-Refused.reason, c.refuse_encoding.ensures.line known same)
