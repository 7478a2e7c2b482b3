use Rattle.flac_native.proofs.Blocks.{are_read}
use Rattle.flac_native.proofs.retagging.read_blocks.Goals as goal

pub returns-in-Ok-clause-read : goal.returns-in-Ok-clause-read
returns-in-Ok-clause-read g c = λ known. are_read (c.in-Ok.ensures.kept known)
