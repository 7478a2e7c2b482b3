use Rattle.flac_header.specs.Spelling.{size_spelling}
use Rattle.flac_header.proofs.write.put_size.Goals as goal

pub returns-in-7 : goal.returns-in-7
unfolding size_spelling
returns-in-7 g c = rw c.in-7.is c.put-in-7.ensures
