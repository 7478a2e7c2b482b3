use Rattle.std.proofs.Common.{◌≡◌, rules, true, None, length, subst, OnOk}
use Rattle.std.specs.Prelude.{⊤, IfErr}
use Rattle.flac_bits.specs.Layout.{bits as number}
use Rattle.flac_bits.specs.Lists.{list_of}
use Rattle.flac_pages.specs.Packets.{Place, on_page}
use Rattle.flac_pages.specs.Items.{HasAfter, HasItsPage, Meets, TellsPages}
use Rattle.flac_pages.proofs.ItemReading.{at_there, counts_so, met_told, names_told, pages_told, packet_told, after_told}
use Rattle.flac_pages.proofs.item.read_packet.Goals as goal

pub returns-clause-tells : goal.returns-clause-tells
returns-clause-tells g c = λ known same.
    let p = c.args.pages.now in
    let view = λ (x : ⊤). c.read_bytes-read.new.out in
    let layout = list_of (length c.args.out.now) (number 8) in
    packet_told view None layout p c.packet_bits-bits.result c.read_bytes-read.new.bits c.end_item-told.result.1.now c.read_bytes-read.result c.end_item-told.result.0
    (at_there c.over.result.pages.now p c.packet_bits-bits.result c.over.ensures.pages (c.packet_bits-bits.ensures.at c.over.ensures.unread.0 c.over.ensures.unread.1)) c.read_bytes-read.ensures.reading.counts c.read_bytes-read.ensures.reading.reads c.end_item-told.ensures.kept c.end_item-told.ensures.judges known (search (rules, same))

pub returns-clause-ahead : goal.returns-clause-ahead
returns-clause-ahead g c =
    let p = c.args.pages.now in
    let view = λ (x : ⊤). c.read_bytes-read.new.out in
    let layout = list_of (length c.args.out.now) (number 8) in
    subst (λ (q : Place). OnOk c.end_item-told.result.0 (p.known ≡ true → HasAfter p q)) (search rules)
    (after_told view None layout p c.packet_bits-bits.result c.read_bytes-read.new.bits c.end_item-told.result.1.now c.read_bytes-read.result c.end_item-told.result.0
    (at_there c.over.result.pages.now p c.packet_bits-bits.result c.over.ensures.pages (c.packet_bits-bits.ensures.at c.over.ensures.unread.0 c.over.ensures.unread.1)) c.read_bytes-read.ensures.reading.counts (λ _. c.read_bytes-read.ensures.reading.reads) c.end_item-told.ensures.judges c.end_item-told.ensures.after)

pub returns-clause-page : goal.returns-clause-page
returns-clause-page g c =
    let at = at_there c.over.result.pages.now c.args.pages.now c.packet_bits-bits.result c.over.ensures.pages (c.packet_bits-bits.ensures.at c.over.ensures.unread.0 c.over.ensures.unread.1) in
    let told : IfErr c.end_item-told.result.0 (λ e. HasItsPage c.end_item-told.result.1.now.count e) =
    c.end_item-told.ensures.page (counts_so c.packet_bits-bits.result c.read_bytes-read.new.bits c.read_bytes-read.result at.raised c.read_bytes-read.ensures.reading.counts) in
    search (rules, told)

pub returns-clause-pages : goal.returns-clause-pages
returns-clause-pages g c =
    let p = c.args.pages.now in
    let at = at_there c.over.result.pages.now p c.packet_bits-bits.result c.over.ensures.pages (c.packet_bits-bits.ensures.at c.over.ensures.unread.0 c.over.ensures.unread.1) in
    subst (λ (q : Place). TellsPages (on_page p) q c.end_item-told.result.0) {x = c.end_item-told.result.1.now} {y = c.pages-1.given.0} (search rules)
    (subst (λ (q : Place). TellsPages (on_page q) c.end_item-told.result.1.now c.end_item-told.result.0) c.over.ensures.lent
    (pages_told p c.end_item-told.result.1.now _ _ _ c.packet_bits-bits.result c.read_bytes-read.new.bits c.read_bytes-read.result c.end_item-told.result.0 at.raised at.names c.read_bytes-read.ensures.reading.counts c.end_item-told.ensures.back))

pub returns-clause-names : goal.returns-clause-names
returns-clause-names g c =
    let p = c.args.pages.now in
    let at = at_there c.over.result.pages.now p c.packet_bits-bits.result c.over.ensures.pages (c.packet_bits-bits.ensures.at c.over.ensures.unread.0 c.over.ensures.unread.1) in
    subst (λ (q : Place). q.names ≡ p.names) {x = c.end_item-told.result.1.now} {y = c.pages-1.given.0} (search rules)
    (names_told p c.end_item-told.result.1.now _ _ _ c.packet_bits-bits.result c.read_bytes-read.new.bits c.read_bytes-read.result c.end_item-told.result.0 at.names c.read_bytes-read.ensures.reading.counts c.end_item-told.ensures.back)

pub returns-clause-meets : goal.returns-clause-meets
returns-clause-meets g c =
    let p = c.args.pages.now in
    let at = at_there c.over.result.pages.now p c.packet_bits-bits.result c.over.ensures.pages (c.packet_bits-bits.ensures.at c.over.ensures.unread.0 c.over.ensures.unread.1) in
    subst (λ (q : Place). Meets p.raised q.raised c.end_item-told.result.0) {x = c.end_item-told.result.1.now} {y = c.pages-1.given.0} (search rules)
    (met_told p c.end_item-told.result.1.now _ _ _ c.packet_bits-bits.result c.read_bytes-read.new.bits c.read_bytes-read.result c.end_item-told.result.0 at.raised at.names c.read_bytes-read.ensures.reading.counts c.end_item-told.ensures.back)
