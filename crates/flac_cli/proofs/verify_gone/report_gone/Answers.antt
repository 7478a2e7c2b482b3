use Rattle.flac_cli.proofs.Gone.{begins_gone}
use Rattle.flac_cli.proofs.verify_gone.report_gone.Goals as goal

pub gone-init : goal.gone-init
gone-init g c = begins_gone g.E.Target _ _
