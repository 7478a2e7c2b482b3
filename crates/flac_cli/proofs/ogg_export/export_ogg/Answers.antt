use Rattle.std.proofs.Common.{rules}
use Rattle.flac_cli.proofs.ogg_export.export_ogg.Goals as goal

pub returns-in-Ok-clause-exported : goal.returns-in-Ok-clause-exported
returns-in-Ok-clause-exported g c = search rules
