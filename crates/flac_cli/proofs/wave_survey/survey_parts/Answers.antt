use Rattle.std.proofs.Common.{◌∙◌}
use Rattle.flac_cli.proofs.Surveys.{part_surveyed}
use Rattle.flac_cli.proofs.wave_survey.survey_parts.Goals as goal

pub returns-clause-found : goal.returns-clause-found
returns-clause-found g c = λ known.
    let samples = c.in_ok-samples.ensures in
    part_surveyed c.args.to_end (g.R.Source.coming c.args.source.now) c.as_slice.result.now c.args.front c.args.size c.in_ok-samples.samples c.in_ok-after.after (samples.good known) (samples.found known)
    (c.as_slice.ensures.value ∙ (c.in_ok-back.ensures.bytes (samples.known known) ∙ samples.left known)) c.in_ok-after.ensures
