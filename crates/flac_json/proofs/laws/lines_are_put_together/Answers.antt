use Rattle.flac_json.proofs.Files.{line_parts}
use Rattle.flac_json.proofs.laws.lines_are_put_together.Goals as goal

pub returns : goal.returns
returns c = line_parts
