use Rattle.std.proofs.Common.{Option, subst}
use Rattle.flac_info.specs.Info.{Info}
use Rattle.flac_c.specs.Heads.{Begins}
use Rattle.flac_c.proofs.Kept.{then_ok}
use Rattle.flac_c.proofs.info.flac_proved_info.Goals as goal

pub returns-clause-found : goal.returns-clause-found
returns-clause-found c = λ zero.
    let begun = then_ok (Begins c.args.bytes.now c.read_head.new.head.info c.read_head.new.head.comments) c.read_head.result c.in_default.field-0 c.in_default.is c.read_head.ensures.begun in
    (c.in-Some.found, c.read_head.new.head.comments, subst (λ (o : Option Info). Begins c.args.bytes.now o c.read_head.new.head.comments) c.in-Some.is begun, c.info_in_c.ensures)
