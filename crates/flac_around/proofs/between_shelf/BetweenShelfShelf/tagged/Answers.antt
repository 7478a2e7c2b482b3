use Rattle.flac_around.proofs.Shelves.{tagged_listed}
use Rattle.flac_around.proofs.between_shelf.BetweenShelfShelf.tagged.Goals as goal

pub returns-in-Some : goal.returns-in-Some
returns-in-Some g c = λ known. tagged_listed c.has_tags.result c.in-Some.edges _ (c.in-Some.ensures known) c.has_tags.ensures
