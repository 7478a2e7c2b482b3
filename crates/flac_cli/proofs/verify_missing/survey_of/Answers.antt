use Rattle.flac_cli.proofs.Missing.{unlisted_for}
use Rattle.flac_cli.proofs.verify_missing.survey_of.Goals as goal

pub returns-in-Err-clause-unlisted : goal.returns-in-Err-clause-unlisted
returns-in-Err-clause-unlisted c = unlisted_for _ _ _ c.in-Err.ensures.fault c.of_survey.ensures
