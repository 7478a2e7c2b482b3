use Rattle.flac_cli.proofs.Reported.{line_sent}
use Rattle.flac_cli.proofs.tag.refuse_room.Goals as goal

pub returns-clause-line : goal.returns-clause-line
returns-clause-line g c = λ known same. line_sent c.write_line.result _ _ c.write_line.ensures.sent c.write_line.ensures.failed known same
