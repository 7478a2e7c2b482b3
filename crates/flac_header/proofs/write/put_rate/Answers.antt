use Rattle.flac_header.specs.Spelling.{rate_spelling}
use Rattle.flac_header.proofs.write.put_rate.Goals as goal

pub returns-in-13 : goal.returns-in-13
unfolding rate_spelling
returns-in-13 g c = rw c.in-13.is c.put-in-13.ensures

pub returns-in-14 : goal.returns-in-14
unfolding rate_spelling
returns-in-14 g c = rw c.in-14.is c.put-in-14.ensures
