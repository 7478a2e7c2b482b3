use Rattle.std.proofs.Common.{[], sym, subst}
use Rattle.flac_cli.specs.inner.WaveSurvey.{HasDepth}
use Rattle.flac_cli.proofs.Surveys.{depth_has}
use Rattle.flac_cli.proofs.wave_survey.none_found.Goals as goal

pub returns-clause-room : goal.returns-clause-room
returns-clause-room c = subst (HasDepth c.args.format.now) (sym c.depth_of.ensures) (depth_has c.args.format.now c.requires [])
