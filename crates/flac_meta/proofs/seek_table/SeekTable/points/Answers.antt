use Rattle.std.proofs.Common.{rules}
use Rattle.flac_meta.proofs.seek_table.SeekTable.points.Goals as goal

pub returns : goal.returns
returns c = search rules
