use Rattle.std.proofs.Common.{rules}
use Rattle.flac_around.proofs.Lefts.{tag_taken, no_tag_taken}
use Rattle.flac_around.proofs.between.Between.end.Goals as goal

pub returns-then-is_back-clause-last : goal.returns-then-is_back-clause-last
returns-then-is_back-clause-last g c = tag_taken c.args.self.now.held (search rules) (search rules)

pub returns-else-is_back-clause-last : goal.returns-else-is_back-clause-last
returns-else-is_back-clause-last g c = no_tag_taken c.args.self.now.held (search rules) (search rules)
