use Rattle.std.proofs.Common.{Some}
use Rattle.flac_cli.proofs.list_json.json_head.Goals as goal

pub returns-in-Err-clause-named : goal.returns-in-Err-clause-named
returns-in-Err-clause-named g c = λ is known same. (Some c.in-Err.fault.at, c.in-Err.fault.why, (c.refuse.ensures.line known same).1)
