use Rattle.std.proofs.Common.{rules}
use Rattle.flac_meta.proofs.lists.Entries.as_slice.Goals as goal

pub returns : goal.returns
returns g c = search rules
