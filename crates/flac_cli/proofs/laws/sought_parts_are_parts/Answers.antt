use Rattle.flac_cli.proofs.PartsFound.{sought_is_part}
use Rattle.flac_cli.proofs.laws.sought_parts_are_parts.Goals as goal

pub returns : goal.returns
returns c = sought_is_part
