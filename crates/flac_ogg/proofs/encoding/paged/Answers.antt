use Rattle.std.proofs.Common.{◌≡◌, ◌∙◌, ap, sym, nat_lt, ℕ, List, arith, []}
use Rattle.flac_bits.specs.Bits.{bits_of}
use Rattle.flac_bits.specs.Written.{Written}
use Rattle.flac_native.specs.FixedBuffer.{placed}
use Rattle.flac_native.proofs.FixedBuffers.{filled, never_full}
use Rattle.flac_pages.specs.Written.{packet_spelling}
use Rattle.flac_ogg.proofs.SentPackets.{pages_long}
use Rattle.flac_ogg.proofs.encoding.paged.Goals as goal

pub unreachable-requires : goal.unreachable-requires
unreachable-requires c =
    let place = c.into_target-place.result in
    let e = c.emptied.ensures in
    let w = c.new-writer.ensures in
    let places : ℕ = c.args.place.places in
    let none : List ℕ = c.emptied.result.bytes.items in
    let blank : c.new-writer.result.bits ≡ bits_of (placed places []) = ap (λ (v : Written). v.bits) w ∙ ap (λ n. bits_of (placed n none)) e.places ∙ ap (λ l. bits_of (placed places l)) e.none in
    let known = ap (λ (v : Written). v.known) w ∙ ap (λ n. nat_lt n 18446744073709551615) e.errors in
    let text = packet_spelling c.args.marks c.args.packet.now in
    never_full _ text places place.places place.bytes.items c.new-writer.result c.write_pages-outcome.new.writer known blank (sym c.into_target-place.ensures.sent) (omega (arith, pages_long c.args.marks c.args.packet.now, c.requires))
    (λ some. place.full (omega (arith, some, c.into_target-place.ensures.errors))) c.in-Err.ensures.wrote

pub returns-clause-places : goal.returns-clause-places
returns-clause-places c =
    let place = c.into_target-place.result in
    let e = c.emptied.ensures in
    let w = c.new-writer.ensures in
    let places : ℕ = c.args.place.places in
    let none : List ℕ = c.emptied.result.bytes.items in
    let blank : c.new-writer.result.bits ≡ bits_of (placed places []) = ap (λ (v : Written). v.bits) w ∙ ap (λ n. bits_of (placed n none)) e.places ∙ ap (λ l. bits_of (placed places l)) e.none in
    let known = ap (λ (v : Written). v.known) w ∙ ap (λ n. nat_lt n 18446744073709551615) e.errors in
    (filled _ (packet_spelling c.args.marks c.args.packet.now) places place.places place.bytes.items c.new-writer.result c.write_pages-outcome.new.writer known blank (sym c.into_target-place.ensures.sent) c.in-Ok.ensures.wrote).0

pub returns-clause-pages : goal.returns-clause-pages
returns-clause-pages c =
    let place = c.into_target-place.result in
    let e = c.emptied.ensures in
    let w = c.new-writer.ensures in
    let places : ℕ = c.args.place.places in
    let none : List ℕ = c.emptied.result.bytes.items in
    let blank : c.new-writer.result.bits ≡ bits_of (placed places []) = ap (λ (v : Written). v.bits) w ∙ ap (λ n. bits_of (placed n none)) e.places ∙ ap (λ l. bits_of (placed places l)) e.none in
    let known = ap (λ (v : Written). v.known) w ∙ ap (λ n. nat_lt n 18446744073709551615) e.errors in
    (filled _ (packet_spelling c.args.marks c.args.packet.now) places place.places place.bytes.items c.new-writer.result c.write_pages-outcome.new.writer known blank (sym c.into_target-place.ensures.sent) c.in-Ok.ensures.wrote).1
