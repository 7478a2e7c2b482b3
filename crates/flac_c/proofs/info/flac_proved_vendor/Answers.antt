use Rattle.std.proofs.Common.{◌≡◌, Option, is_some, true}
use Rattle.flac_info.specs.Info.{Info}
use Rattle.flac_c.specs.Heads.{Begins}
use Rattle.flac_c.proofs.Kept.{then_ok, found_one}
use Rattle.flac_c.proofs.info.flac_proved_vendor.Goals as goal

pub returns-clause-found : goal.returns-clause-found
returns-clause-found c = λ zero.
    let begun = then_ok (Begins c.args.bytes.now c.read_head.new.head.info c.read_head.new.head.comments) c.read_head.result c.in_default.field-0 c.in_default.is c.read_head.ensures.begun in
    let some = then_ok (is_some c.read_head.new.head.info ≡ true) c.read_head.result c.in_default.field-0 c.in_default.is c.read_head.ensures.found in
    let one = found_one (λ (o : Option Info). Begins c.args.bytes.now o c.read_head.new.head.comments) c.read_head.new.head.info some begun in
    (one.0, c.read_head.new.head.comments, one.1, c.copy_vendor.ensures)
