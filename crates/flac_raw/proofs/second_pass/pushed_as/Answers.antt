use Rattle.flac_raw.proofs.Beginning.{other_changed}
use Rattle.flac_raw.proofs.second_pass.pushed_as.Goals as goal

pub returns-in_default : goal.returns-in_default
returns-in_default c = other_changed c.args.fault c.in_default.not-Memory c.in_default.not-Write
