use Rattle.flac_pages.proofs.Cut.{made_lacing}
use Rattle.flac_pages.proofs.writing.put_lacing.Goals as goal

pub returns-clause-values : goal.returns-clause-values
returns-clause-values c = made_lacing c.args.bytes c.args.lacing.now c.requires.bytes c.requires.places
