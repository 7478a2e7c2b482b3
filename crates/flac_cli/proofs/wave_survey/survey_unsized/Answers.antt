use Rattle.std.proofs.Common.{◌≡◌, ◌∙◌, true, ap, sym, subst, refl}
use Rattle.std.proofs.lemmas.Result.{err_from_is_err_and}
use Rattle.flac_wave.specs.Chunks.{is_unstated, size_in}
use Rattle.flac_wave.specs.Wave.{IsErrorOf}
use Rattle.flac_wave.specs.inner.Pieces.{error_of}
use Rattle.flac_cli.proofs.TakenWaves.{unstated_error}
use Rattle.flac_cli.proofs.Surveys.{all_surveyed, all_stopped}
use Rattle.flac_cli.proofs.wave_survey.survey_unsized.Goals as goal

pub returns-in_err-rest-clause-fault : goal.returns-in_err-rest-clause-fault
returns-in_err-rest-clause-fault g c =
    let p = err_from_is_err_and c.from_residual.result c.from_residual.ensures.1 in
    rw (p.1, p.2) (λ known same bytes b. subst (λ w. IsErrorOf c.args.to_end bytes (error_of w)) (sym (c.in_err-rest.ensures.memory known same)) tt)

pub returns-then-is_unstated-clause-fault : goal.returns-then-is_unstated-clause-fault
returns-then-is_unstated-clause-fault g c = λ known same bytes b.
    let rest = g.R.Source.coming c.args.source.now in
    let all = c.in_ok-rest.ensures.bytes known in
    let size = c.size_in-size.ensures ∙ ap (size_in c.args.to_end c.args.front.size) (c.as_slice.ensures.value ∙ all) in
    unstated_error c.args.to_end bytes rest c.args.front b
    (ap (λ o. is_unstated o rest) (sym size) ∙ (ap (is_unstated c.size_in-size.result) (sym (c.as_slice-2.ensures.value ∙ all)) ∙ (sym c.is_unstated.ensures ∙ c.if-is_unstated.true)))

pub returns-clause-found : goal.returns-clause-found
returns-clause-found g c =
    let all = c.in_ok-rest.ensures.bytes in
    all_surveyed c.survey_parts.result c.args.to_end c.args.front c.size_in-size.result c.new.result.bytes.now (g.R.Source.coming c.args.source.now) (g.R.Source.known c.args.source.now ≡ true) _ _ refl (refl {a = true})
    (λ known. c.new.ensures ∙ (c.as_slice-3.ensures.value ∙ all known))
    (λ known. record {
      is = sym (c.size_in-size.ensures ∙ ap (size_in c.args.to_end c.args.front.size) (c.as_slice.ensures.value ∙ all known));
      said = ap (is_unstated c.size_in-size.result) (sym (c.as_slice-2.ensures.value ∙ all known)) ∙ (sym c.is_unstated.ensures ∙ c.if-is_unstated.false);
    }) c.survey_parts.ensures.found

pub returns-clause-fault : goal.returns-clause-fault
returns-clause-fault g c =
    let all = c.in_ok-rest.ensures.bytes in
    all_stopped c.survey_parts.result c.args.to_end c.args.front c.size_in-size.result c.new.result.bytes.now (g.R.Source.coming c.args.source.now) (g.R.Source.known c.args.source.now ≡ true) _ _ refl refl
    (λ known. c.new.ensures ∙ (c.as_slice-3.ensures.value ∙ all known))
    (λ known. record {
      is = sym (c.size_in-size.ensures ∙ ap (size_in c.args.to_end c.args.front.size) (c.as_slice.ensures.value ∙ all known));
      said = ap (is_unstated c.size_in-size.result) (sym (c.as_slice-2.ensures.value ∙ all known)) ∙ (sym c.is_unstated.ensures ∙ c.if-is_unstated.false);
    }) _ c.survey_parts.ensures.fault
