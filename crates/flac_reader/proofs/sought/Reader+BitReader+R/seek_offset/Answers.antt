use Rattle.std.proofs.Common.{rules}
use Rattle.flac_reader.proofs.sought.Reader+BitReader+R.seek_offset.Goals as goal

pub returns : goal.returns
returns g c = search rules
