use Rattle.flac_header.specs.declared.subset.Profile.TheVariants.{Lax}
use Rattle.flac_rescue.proofs.Within.{found_within}
use Rattle.flac_rescue.proofs.survey.find.Goals as goal

pub returns-in-Ok-clause-within : goal.returns-in-Ok-clause-within
returns-in-Ok-clause-within c = found_within Lax c.args.info.now c.args.bytes.now c.args.front c.in-Ok.found.cut c.in-Ok.found.frames.items c.in-Ok.ensures.found
