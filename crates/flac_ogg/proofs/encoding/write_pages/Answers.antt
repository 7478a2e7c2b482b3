use Rattle.std.proofs.Common.{◌≡◌, ◌∙◌, ℕ, Err, ap}
use Rattle.std.proofs.lemmas.Result.{err_from_is_err_and}
use Rattle.flac_bits.specs.State.{Mark}
use Rattle.flac_bits.proofs.ItemSpellings.{after_whole}
use Rattle.flac_native.proofs.FixedBuffers.{all_failed, all_written}
use Rattle.flac_pages.specs.Written.{packet_spelling}
use Rattle.flac_ogg.proofs.Listing.{packet_whole}
use Rattle.flac_ogg.proofs.encoding.write_pages.Goals as goal

pub returns-in_err-next-clause-wrote : goal.returns-in_err-next-clause-wrote
returns-in_err-next-clause-wrote g c =
    let p = err_from_is_err_and c.from_residual.result c.from_residual.ensures.1 in
    rw (p.1, p.2) (all_failed ℕ (packet_spelling c.args.marks c.args.packet.now) c.args.writer.now c.write_packet.new.writer _ c.in_err-next.ensures.wrote)

pub returns-in_err-finish-clause-wrote : goal.returns-in_err-finish-clause-wrote
returns-in_err-finish-clause-wrote g c =
    let p = err_from_is_err_and c.from_residual-in_err-finish.result c.from_residual-in_err-finish.ensures.1 in
    let text = packet_spelling c.args.marks c.args.packet.now in
    let adds = c.in_ok-next.ensures.wrote in
    let unread : c.write_packet.new.writer.mark.unread ≡ 0 = ap (λ (m : Mark). m.unread) adds.mark ∙ after_whole text c.args.writer.now.mark c.requires (packet_whole c.args.marks c.args.packet.now).bytes in
    rw (p.1, p.2) (all_written {X = ℕ} text c.args.writer.now c.write_packet.new.writer c.finish.new.self (Err _) adds unread c.in_err-finish.ensures.writes tt)

pub returns-clause-wrote : goal.returns-clause-wrote
returns-clause-wrote g c =
    let text = packet_spelling c.args.marks c.args.packet.now in
    let adds = c.in_ok-next.ensures.wrote in
    let unread : c.write_packet.new.writer.mark.unread ≡ 0 = ap (λ (m : Mark). m.unread) adds.mark ∙ after_whole text c.args.writer.now.mark c.requires (packet_whole c.args.marks c.args.packet.now).bytes in
    all_written text c.args.writer.now c.write_packet.new.writer c.finish.new.self _ adds unread c.in_ok-finish.ensures.writes c.in_ok-finish.ensures.whole
