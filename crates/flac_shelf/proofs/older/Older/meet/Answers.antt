use Rattle.std.proofs.Common.{ap, map, ◌∙◌}
use Rattle.std.specs.String.{string_bytes}
use Rattle.flac_shelf.proofs.Compared.{removed}
use Rattle.flac_shelf.proofs.older.Older.meet.Goals as goal

pub returns-clause-left : goal.returns-clause-left
returns-clause-left c = ap (map string_bytes) c.remove.ensures.keys ∙ removed c.args.path.now c.args.self.now.left.keys
