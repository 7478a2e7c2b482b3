use Rattle.flac_around.proofs.Shelves.{opens_between}
use Rattle.flac_around.proofs.between_shelf.BetweenShelfShelf.open.Goals as goal

pub returns-in-Some-clause-opened : goal.returns-in-Some-clause-opened
returns-in-Some-clause-opened g c = λ known. opens_between _ _ _ c.new.result c.new.ensures.source c.new.ensures.bytes (c.in-Some.ensures.opened known)
