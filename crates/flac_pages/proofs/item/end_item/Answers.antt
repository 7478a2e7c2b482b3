use Rattle.std.proofs.Common.{◌∷◌, ◌++◌, ap, sym, ◌∙◌}
use Rattle.std.specs.Borrow.{GName}
use Rattle.flac_pages.specs.Packets.{on_page}
use Rattle.flac_pages.specs.Items.{numbers_of}
use Rattle.flac_pages.proofs.Judging.{judged_end, judged_why, why_back, told_of, counted_read, known_there}
use Rattle.flac_pages.proofs.item.end_item.Goals as goal

pub returns-in-Err-default-clause-judges : goal.returns-in-Err-default-clause-judges
returns-in-Err-default-clause-judges g c = judged_end c.args.bits c.end_after.result.1.now c.args.read c.in-Ok.item c.end_after.result.0 c.in-Err-default.why c.in-Ok.is c.in-Err-default.is-0 c.end_after.ensures.judges

pub returns-in-Err-clause-judges : goal.returns-in-Err-clause-judges
returns-in-Err-clause-judges g c =
    let packet = c.into_source-packet.result in
    let tells = c.into_source-packet.ensures in
    judged_why c.args.bits packet.fault c.why.result packet.errors packet.pages.now c.into_pages.result.now c.args.read c.in-Err.why c.why_in-why.result c.in-Err.is c.why_in-why.ensures.value c.why.ensures.fault packet.quiet tells.raised tells.after

pub returns-in-Err-clause-back : goal.returns-in-Err-clause-back
returns-in-Err-clause-back g c =
    let packet = c.into_source-packet.result in
    let tells = c.into_source-packet.ensures in
    why_back c.args.bits _ packet.lent.value.raised (on_page packet.lent.value) packet.fault c.why.result packet.errors packet.pages.now c.into_pages.result.now c.args.read c.in-Err.why c.why_in-why.result c.in-Err.is c.why_in-why.ensures.value c.why.ensures.fault
    (sym tells.names ∙ ap (λ (k : GName). k ∷ packet.lent.value.raised ∷ (numbers_of (on_page packet.lent.value) ++ packet.pages.now.names)) (sym c.into_pages.ensures.same)) c.into_pages.ensures.pages tells.raised packet.quiet packet.met (λ f is known. packet.breaks f is (known_there packet.lent.value known))

pub returns-in-Err-clause-page : goal.returns-in-Err-clause-page
returns-in-Err-clause-page g c = λ counts.
    let packet = c.into_source-packet.result in
    told_of packet.fault c.why.result packet.errors packet.pages.now c.into_pages.result.now c.in-Err.why c.why_in-why.result c.why_in-why.ensures.value c.why.ensures.fault c.into_pages.ensures.pages packet.quiet packet.page packet.memory
    (counted_read c.args.read c.args.bits.raised packet.errors c.in-Err.why c.in-Err.is counts c.into_source-packet.ensures.raised)
