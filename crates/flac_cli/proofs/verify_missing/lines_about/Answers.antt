use Rattle.std.proofs.Common.{subst}
use Rattle.flac_rescue.specs.Survey.{IsSurvey}
use Rattle.flac_cli.specs.inner.Missing.{IsUnsurveyed}
use Rattle.flac_cli.proofs.verify_missing.lines_about.Goals as goal

pub returns-in-Ok-lines_of-clause-lines : goal.returns-in-Ok-lines_of-clause-lines
returns-in-Ok-lines_of-clause-lines c =
    (c.in-Ok.survey, subst (λ l. IsSurvey l c.in-Ok.survey) c.deref.ensures.value c.in-Ok.ensures.survey, c.in-Ok-lines_of.ensures)

pub returns-clause-unlisted : goal.returns-clause-unlisted
returns-clause-unlisted c = subst (λ l. IsUnsurveyed l c.in-Err.unlisted) c.deref.ensures.value c.in-Err.ensures.unlisted
