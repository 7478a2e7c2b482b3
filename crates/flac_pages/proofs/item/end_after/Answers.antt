use Rattle.std.proofs.Common.{◌∷◌, ◌++◌, ap, sym, ◌∙◌}
use Rattle.std.specs.Borrow.{GName}
use Rattle.flac_bits.specs.State.{without_fence}
use Rattle.flac_pages.specs.Packets.{on_page}
use Rattle.flac_pages.specs.Items.{numbers_of}
use Rattle.flac_pages.proofs.Judging.{goes_after, end_back, told_back, left_back, known_there, and_left, is_over, told_of, rose_read}
use Rattle.flac_pages.proofs.item.end_after.Goals as goal

pub returns-in-Ok-true-clause-after : goal.returns-in-Ok-true-clause-after
returns-in-Ok-true-clause-after g c =
    let packet = c.into_source-packet.result in
    let tells = c.into_source-packet.ensures in
    let counts = c.in-Ok-true.ensures.counts in
    goes_after c.args.bits packet.fault packet.pages.now c.into_pages-pages.result.now c.end_packet-ended.new.self c.end_packet-ended.result c.into_pages-pages.ensures.pages
    (λ known. and_left _ _ (tells.told (counts.0 known)))
    (tells.errors ∙ counts.1)
    (c.at_end-over.ensures.ended (is_over c.at_end-over.result c.in-Ok-true.field-0 c.in-Ok-true.is c.in-Ok-true.field-0-test))
    (λ known. tells.after ∙ ap without_fence (counts.3 known))
    c.end_packet-ended.ensures.ends

pub returns-in-Ok-true-clause-back : goal.returns-in-Ok-true-clause-back
returns-in-Ok-true-clause-back g c =
    let packet = c.into_source-packet.result in
    let tells = c.into_source-packet.ensures in
    let counts = c.in-Ok-true.ensures.counts in
    end_back c.args.bits _ packet.lent.value packet.fault packet.errors packet.pages.now c.into_pages-pages.result.now c.end_packet-ended.new.self c.end_packet-ended.result
    (sym (tells.names ∙ counts.4) ∙ ap (λ (k : GName). k ∷ packet.lent.value.raised ∷ (numbers_of (on_page packet.lent.value) ++ packet.pages.now.names)) (sym c.into_pages-pages.ensures.same)) c.into_pages-pages.ensures.pages (tells.raised ∙ counts.2) packet.counted packet.calm packet.follows packet.same c.end_packet-ended.ensures.ends

pub returns-in-Err-clause-page : goal.returns-in-Err-clause-page
returns-in-Err-clause-page g c = λ none.
    let packet = c.into_source-packet.result in
    told_of packet.fault c.why-fault.result packet.errors packet.pages.now c.into_pages-pages.result.now c.in-Err.why c.why_in.result c.why_in.ensures.value c.why-fault.ensures.fault c.into_pages-pages.ensures.pages packet.quiet packet.page packet.memory
    (rose_read c.args.bits.raised c.at_end-over.new.bits.raised packet.errors c.in-Err.why none c.in-Err.ensures.counts.4 c.into_source-packet.ensures.raised)

pub returns-in-Ok-false-clause-back : goal.returns-in-Ok-false-clause-back
returns-in-Ok-false-clause-back g c =
    let packet = c.into_source-packet.result in
    let tells = c.into_source-packet.ensures in
    left_back c.args.bits _ packet.lent.value.raised (on_page packet.lent.value) packet.pages.now c.into_pages-pages.result.now
    (sym (tells.names ∙ c.in-Ok-false.ensures.counts.4) ∙ ap (λ (k : GName). k ∷ packet.lent.value.raised ∷ (numbers_of (on_page packet.lent.value) ++ packet.pages.now.names)) (sym c.into_pages-pages.ensures.same)) c.into_pages-pages.ensures.pages

pub returns-in-Err-clause-back : goal.returns-in-Err-clause-back
returns-in-Err-clause-back g c =
    let packet = c.into_source-packet.result in
    let tells = c.into_source-packet.ensures in
    told_back c.args.bits _ packet.lent.value.raised (on_page packet.lent.value) packet.fault c.why-fault.result packet.errors packet.pages.now c.into_pages-pages.result.now _ c.in-Err.why c.why_in.result c.why_in.ensures.value c.why-fault.ensures.fault
    (sym (tells.names ∙ c.in-Err.ensures.counts.3) ∙ ap (λ (k : GName). k ∷ packet.lent.value.raised ∷ (numbers_of (on_page packet.lent.value) ++ packet.pages.now.names)) (sym c.into_pages-pages.ensures.same)) c.into_pages-pages.ensures.pages
    packet.quiet packet.met (λ f is known. packet.breaks f is (known_there packet.lent.value known))
    (λ none. (rose_read c.args.bits.raised c.at_end-over.new.bits.raised packet.errors c.in-Err.why none c.in-Err.ensures.counts.4 tells.raised, c.in-Err.ensures.counts.5))
