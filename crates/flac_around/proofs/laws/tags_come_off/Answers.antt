use Rattle.flac_around.proofs.Around.{both, before_alone, after_alone}
use Rattle.flac_around.proofs.laws.tags_come_off.Goals as goal

pub returns : goal.returns
returns c = record { both = both; front = before_alone; back = after_alone }
