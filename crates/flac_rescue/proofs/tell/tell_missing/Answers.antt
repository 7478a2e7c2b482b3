use Rattle.std.proofs.Common.{ap, ◌++◌, ◌∙◌}
use Rattle.flac_rescue.proofs.Told.{told}
use Rattle.flac_rescue.proofs.tell.tell_missing.Goals as goal

pub returns-clause-told : goal.returns-clause-told
returns-clause-told g c = λ known same. record {
  survey = c.in_ok-survey.survey;
  is = c.in_ok-survey.ensures.survey;
  printed = told g.E.Target c.as_slice.result.now c.args.err.now c.send_all.new.target c.send_all.result c.send_all.ensures.sends known same
      ∙ ap (λ l. g.E.Target.sent c.args.err.now ++ l) (c.as_slice.ensures.value ∙ c.in_ok-text.ensures);
}
