use Rattle.std.proofs.Common.{◌≡◌, ◌≢◌, ◌+◌, ◌<◌, true, OnOk, length, rules, subst}
use Rattle.std.specs.Prelude.{IfErr}
use Rattle.flac_native.specs.Stream.{room_in}
use Rattle.flac_native.specs.Track.{stand_of, piece_of}
use Rattle.flac_native.specs.declared.track.Phase.TheVariants.{Opening}
use Rattle.flac_pages.specs.Packets.{Place, on_page}
use Rattle.flac_pages.specs.Items.{Meets, TellsPages, HasAfter, HasItsPage}
use Rattle.flac_bits.specs.Fencing.{lifted}
use Rattle.flac_pages.proofs.ItemReading.{at_there, counts_so, met_told, pages_told, names_told, packet_told_within, after_told_within, memory_told}
use Rattle.flac_ogg.proofs.Arriving.{on_ok_under, went_on, spent}
use Rattle.flac_ogg.specs.Mapping.{packet_layout}
use Rattle.flac_ogg.proofs.packets.read_packet.Goals as goal

pub returns-clause-tells : goal.returns-clause-tells
returns-clause-tells g c = λ begun known same calm.
    let s = stand_of c.args.track.now in
    let p = c.args.pages.now in
    let mid = c.read_part-read.new in
    let read = c.read_part-read.result in
    let item = c.end_item-told.result in
    let ends = c.end_item-told.ensures in
    let at = at_there c.over.result.pages.now p c.packet_bits-bits.result c.over.ensures.pages (c.packet_bits-bits.ensures.at c.over.ensures.unread.0 c.over.ensures.unread.1) in
    packet_told_within (λ part. piece_of mid.track part) (room_in s.phase) (packet_layout s) p c.packet_bits-bits.result mid.bits item.1.now read item.0
    at c.read_part-read.ensures.counts (c.read_part-read.ensures.reads begun (memory_told mid.bits item.1.now read item.0 ends.judges calm)) ends.kept ends.judges known (search (rules, same))

pub returns-clause-ahead : goal.returns-clause-ahead
returns-clause-ahead g c =
    let s = stand_of c.args.track.now in
    let p = c.args.pages.now in
    let mid = c.read_part-read.new in
    let item = c.end_item-told.result in
    let at = at_there c.over.result.pages.now p c.packet_bits-bits.result c.over.ensures.pages (c.packet_bits-bits.ensures.at c.over.ensures.unread.0 c.over.ensures.unread.1) in
    subst (λ (q : Place). OnOk item.0 (s.phase ≢ Opening → p.known ≡ true → HasAfter p q)) (search rules)
    (on_ok_under item.0 _ _ (λ begun.
    after_told_within (λ part. piece_of mid.track part) (room_in s.phase) (packet_layout s) p c.packet_bits-bits.result mid.bits item.1.now c.read_part-read.result item.0
    at c.read_part-read.ensures.counts (c.read_part-read.ensures.reads begun) c.end_item-told.ensures.judges c.end_item-told.ensures.after))

pub returns-clause-goes : goal.returns-clause-goes
returns-clause-goes g c =
    let p = c.args.pages.now in
    let item = c.end_item-told.result in
    let at = at_there c.over.result.pages.now p c.packet_bits-bits.result c.over.ensures.pages (c.packet_bits-bits.ensures.at c.over.ensures.unread.0 c.over.ensures.unread.1) in
    subst (λ (q : Place). OnOk item.0 ((p.known ≡ true → q.known ≡ true) × (q.errors ≡ p.errors))) {x = item.1.now} {y = c.pages-1.given.0} (search rules)
    (went_on p c.packet_bits-bits.result c.read_part-read.new.bits item.1.now c.read_part-read.result item.0 at c.read_part-read.ensures.counts c.end_item-told.ensures.same c.end_item-told.ensures.after)

pub returns-clause-spends : goal.returns-clause-spends
returns-clause-spends g c =
    let p = c.args.pages.now in
    let item = c.end_item-told.result in
    let at = at_there c.over.result.pages.now p c.packet_bits-bits.result c.over.ensures.pages (c.packet_bits-bits.ensures.at c.over.ensures.unread.0 c.over.ensures.unread.1) in
    subst (λ (q : Place). OnOk item.0 (q.most + length q.body < p.most + length p.body)) {x = item.1.now} {y = c.pages-1.given.0} (search rules)
    (spent (p.most + length p.body) (item.1.now.most + length item.1.now.body) c.packet_bits-bits.result.most c.read_part-read.new.bits.most c.read_part-read.result item.0 at.most c.read_part-read.ensures.spends c.end_item-told.ensures.same c.end_item-told.ensures.spends)

pub returns-clause-meets : goal.returns-clause-meets
returns-clause-meets g c =
    let p = c.args.pages.now in
    let item = c.end_item-told.result in
    let at = at_there c.over.result.pages.now p c.packet_bits-bits.result c.over.ensures.pages (c.packet_bits-bits.ensures.at c.over.ensures.unread.0 c.over.ensures.unread.1) in
    subst (λ (q : Place). Meets p.raised q.raised item.0) {x = item.1.now} {y = c.pages-1.given.0} (search rules)
    (met_told p item.1.now _ _ _ (lifted c.packet_bits-bits.result) c.read_part-read.new.bits c.read_part-read.result item.0 at.raised at.names c.read_part-read.ensures.counts c.end_item-told.ensures.back)

pub returns-clause-page : goal.returns-clause-page
returns-clause-page g c =
    let bits = c.packet_bits-bits.result in
    let item = c.end_item-told.result in
    let at = at_there c.over.result.pages.now c.args.pages.now bits c.over.ensures.pages (c.packet_bits-bits.ensures.at c.over.ensures.unread.0 c.over.ensures.unread.1) in
    let told : IfErr item.0 (λ e. HasItsPage item.1.now.count e) = c.end_item-told.ensures.page (counts_so (lifted bits) c.read_part-read.new.bits c.read_part-read.result at.raised c.read_part-read.ensures.counts) in
    search (rules, told)

pub returns-clause-pages : goal.returns-clause-pages
returns-clause-pages g c =
    let p = c.args.pages.now in
    let item = c.end_item-told.result in
    let at = at_there c.over.result.pages.now p c.packet_bits-bits.result c.over.ensures.pages (c.packet_bits-bits.ensures.at c.over.ensures.unread.0 c.over.ensures.unread.1) in
    subst (λ (q : Place). TellsPages (on_page p) q item.0) {x = item.1.now} {y = c.pages-1.given.0} (search rules)
    (subst (λ (q : Place). TellsPages (on_page q) item.1.now item.0) c.over.ensures.lent
    (pages_told p item.1.now _ _ _ (lifted c.packet_bits-bits.result) c.read_part-read.new.bits c.read_part-read.result item.0 at.raised at.names c.read_part-read.ensures.counts c.end_item-told.ensures.back))

pub returns-clause-names : goal.returns-clause-names
returns-clause-names g c =
    let p = c.args.pages.now in
    let item = c.end_item-told.result in
    let at = at_there c.over.result.pages.now p c.packet_bits-bits.result c.over.ensures.pages (c.packet_bits-bits.ensures.at c.over.ensures.unread.0 c.over.ensures.unread.1) in
    subst (λ (q : Place). q.names ≡ p.names) {x = item.1.now} {y = c.pages-1.given.0} (search rules)
    (names_told p item.1.now _ _ _ (lifted c.packet_bits-bits.result) c.read_part-read.new.bits c.read_part-read.result item.0 at.names c.read_part-read.ensures.counts c.end_item-told.ensures.back)
