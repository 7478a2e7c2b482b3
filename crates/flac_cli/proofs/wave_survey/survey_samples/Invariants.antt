use Rattle.std.proofs.Common.{◌≡◌, true}
use Rattle.flac_cli.specs.inner.WaveSurvey.{HasDepth}
use Rattle.flac_cli.proofs.Surveys.{FoundSoFar}
use Rattle.flac_cli.proofs.wave_survey.survey_samples.Given as goal

abbrev pub invariant-pieces : goal.invariant-pieces
invariant-pieces g l = record {
  known : g.R.Source.known l.fn.source ≡ true → g.R.Source.known l.source ≡ true;
  read : g.R.Source.known l.fn.source ≡ true → FoundSoFar l.format (g.R.Source.coming l.fn.source) (g.R.Source.coming l.source) l.found;
  after : g.R.Source.known l.fn.source ≡ true → g.R.Source.after l.source ≡ g.R.Source.after l.fn.source;
  raised : g.R.Source.raised l.source ≡ g.R.Source.raised l.fn.source;
  room : HasDepth l.format l.found.depth;
  names : g.R.Source.names l.source ≡ g.R.Source.names l.fn.source;
}

abbrev pub decreases-pieces : goal.decreases-pieces
decreases-pieces g l = g.R.Source.most l.source
