use Rattle.std.proofs.Common.{refl}
use Rattle.flac_cli.proofs.NamedLines.{named}
use Rattle.flac_cli.proofs.Jobs.{not_both}
use Rattle.flac_cli.proofs.ogg_tag.retag_ogg.Goals as goal

pub returns-in-Ok-clause-retagged : goal.returns-in-Ok-clause-retagged
returns-in-Ok-clause-retagged g c = λ is. c.in-Ok.ensures

pub returns-in-Ok-clause-named : goal.returns-in-Ok-clause-named
returns-in-Ok-clause-named g c = λ failed known same. not_both _ failed refl

pub returns-in-Err-clause-named : goal.returns-in-Err-clause-named
returns-in-Err-clause-named g c = λ failed known same.
    (c.in-Err.fault, named _ _ _ _ c.is_of_target.result _ c.is_of_target.ensures _ c.at_fault-path.ensures _ (c.refuse.ensures.line known same).1)
