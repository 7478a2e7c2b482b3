use Rattle.std.proofs.Common.{rules}
use Rattle.flac_meta.proofs.lists.Entries.from_vec.Goals as goal

pub returns : goal.returns
returns g c = search rules
