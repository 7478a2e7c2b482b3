use Rattle.std.proofs.Common.{Some, None, refl, subst, inl, sym, ◌∙◌, ◌⊎◌}
use Rattle.std.proofs.lemmas.Result.{err_from_is_err_and}
use Rattle.flac_rescue.specs.Survey.{IsSurvey}
use Rattle.flac_cli.specs.Asked.{asked_of}
use Rattle.flac_cli.specs.RecodeRefusals.{IsOutside}
use Rattle.flac_cli.specs.Salvages.{IsSalvageReason}
use Rattle.flac_cli.specs.inner.Salvaging.{SalvagesBytes, BeginsBytes}
use Rattle.flac_cli.proofs.Salvages.{unsurveyed, same_reason, no_memory, not_survey, not_input}
use Rattle.flac_cli.proofs.salvage.salvage_left.Goals as goal

pub returns : goal.returns
returns g c =
    let e = c.in_ok-write_left.ensures in
    let same = c.as_slice-bytes.ensures.value in
    record {
      written = subst (λ b. SalvagesBytes g.W.Target c.args.encoding.now c.args.silence b c.args.target.now c.write_left.new.target) same e.written;
      lines = (c.in_ok-survey.survey, subst (λ b. IsSurvey b c.in_ok-survey.survey) same c.in_ok-survey.ensures.survey, c.in_ok-text.ensures.lines);
      begun = tt;
      accepted = subst (λ b. IsSalvageReason (asked_of c.args.encoding.now) c.args.silence b None) same e.accepted;
      refused = tt;
      failed = tt;
    }

pub returns-in_err-survey : goal.returns-in_err-survey
returns-in_err-survey g c =
    let p = err_from_is_err_and c.from_residual.result c.from_residual.ensures.1 in
    let same = c.as_slice-bytes.ensures.value in
    rw (p.1, p.2) (record {
      written = tt;
      lines = tt;
      begun = λ known. inl refl;
      accepted = tt;
      refused = same_reason (asked_of c.args.encoding.now) c.args.silence _ _ _ same
          (unsurveyed (asked_of c.args.encoding.now) c.args.silence c.as_slice-bytes.result.now _ c.in_err-survey.ensures.fault);
      failed = λ is. not_survey _ is;
    })

pub returns-in_err-text : goal.returns-in_err-text
returns-in_err-text g c =
    let p = err_from_is_err_and c.from_residual-in_err-text.result c.from_residual-in_err-text.ensures.1 in
    rw (p.1, p.2) (record {
      written = tt;
      lines = tt;
      begun = λ known. inl refl;
      accepted = tt;
      refused = no_memory _ c.in_err-text.ensures.memory;
      failed = λ is. not_input _ is;
    })

pub returns-in_err-write_left : goal.returns-in_err-write_left
returns-in_err-write_left g c =
    let p = err_from_is_err_and c.from_residual-in_err-write_left.result c.from_residual-in_err-write_left.ensures.1 in
    let e = c.in_err-write_left.ensures in
    let same = c.as_slice-bytes.ensures.value in
    rw (p.1, p.2) (record {
      written = tt;
      lines = tt;
      begun = subst (λ b. BeginsBytes g.W.Target c.args.encoding.now c.args.silence b c.args.target.now c.write_left.new.target) same e.begun;
      accepted = tt;
      refused = same_reason (asked_of c.args.encoding.now) c.args.silence _ _ _ same e.refused;
      failed = e.failed;
    })
