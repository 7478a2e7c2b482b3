use Rattle.std.proofs.Common.{◌≡◌, refl, sym, ap, ◌∙◌}
use Rattle.std.proofs.lemmas.Result.{err_from_is_err_and}
use Rattle.flac_bits.specs.declared.why.Why.TheVariants.{Memory}
use Rattle.flac_bits.proofs.Counting.{answered_then, failed_then}
use Rattle.flac_bits.proofs.Telling.{told_then, told_fault}
use Rattle.flac_meta.specs.Block.{block}
use Rattle.flac_meta.specs.Header.{block_header}
use Rattle.flac_meta.proofs.Exits.{reason_of, had_room, same_room, reason_is, spends_end}
use Rattle.flac_meta.proofs.Reasons.{memory_short, short_stays, header_avoids}
use Rattle.flac_meta.proofs.block.next_block.Goals as goal

pub returns-in_err-header-clause-spare : goal.returns-in_err-header-clause-spare
returns-in_err-header-clause-spare g c = λ is known same firm.
    let p = err_from_is_err_and c.from_residual.result c.from_residual.ensures.1 in
    let e : c.in_err-header.field-0.0 ≡ Memory = reason_is p.1 p.2 is in
    absurd (firm (memory_short (block_header c.args.seen.now) c.args.bits.now.cursor c.in_err-header.field-0.0 (header_avoids c.args.seen.now) e (c.in_err-header.ensures.reading.reads known same)))

pub returns-in_err-body-clause-spare : goal.returns-in_err-body-clause-spare
returns-in_err-body-clause-spare g c = λ is known same firm.
    let p = err_from_is_err_and c.from_residual-in_err-body.result c.from_residual-in_err-body.ensures.1 in
    let e : c.in_err-body.field-0.0 ≡ Memory = reason_is p.1 p.2 is in
    let h = c.in_ok-header.ensures in
    let mid : c.read_block_header.new.bits.errors ≡ c.args.bits.now.errors = h.reading.counts.1 in
    let ran = h.reading.reads known mid in
    let stays = short_stays (block_header c.args.seen.now) c.args.bits.now.cursor c.read_block_header.new.bits.cursor c.in_ok-header.header ran in
    (c.in_ok-header.header, c.read_block_header.new.bits.cursor, ran, c.in_err-body.ensures.spare (ap reason_of e) (h.reading.counts.0 known) (same ∙ sym mid) (λ q. firm (sym stays ∙ q)))

pub returns-in_err-header-clause-reading : goal.returns-in_err-header-clause-reading
unfolding block
returns-in_err-header-clause-reading g c =
    let p = err_from_is_err_and c.from_residual.result c.from_residual.ensures.1 in
    let e = c.in_err-header.ensures.reading in
    rw (p.1, p.2) (record { spends = tt; counts = e.counts; reads = (λ room. told_fault c.args.bits.now c.read_block_header.new.bits _ e.reads) })

pub returns-in_err-body-clause-reading : goal.returns-in_err-body-clause-reading
unfolding block
returns-in_err-body-clause-reading g c =
    let p = err_from_is_err_and c.from_residual-in_err-body.result c.from_residual-in_err-body.ensures.1 in
    rw (p.1, p.2) (record {
      spends = tt;
      counts = failed_then c.args.bits.now c.read_block_header.new.bits c.read_content.new.bits c.in_ok-header.ensures.reading.counts c.in_err-body.ensures.reading.counts;
      reads = (λ room. told_then c.args.bits.now c.read_block_header.new.bits c.read_content.new.bits _ c.in_ok-header.ensures.reading.counts c.in_ok-header.ensures.reading.reads
          (told_fault c.read_block_header.new.bits c.read_content.new.bits _ (c.in_err-body.ensures.reading.reads (same_room room))));
    })

pub returns-clause-reading : goal.returns-clause-reading
unfolding block
returns-clause-reading g c = record {
  spends = spends_end 32 0 c.args.bits.now.most c.read_block_header.new.bits.most c.read_content.new.bits.most c.in_ok-header.ensures.reading.spends c.in_ok-body.ensures.reading.spends;
  counts = answered_then c.args.bits.now c.read_block_header.new.bits c.read_content.new.bits c.in_ok-header.ensures.reading.counts c.in_ok-body.ensures.reading.counts;
  reads = (λ room. told_then c.args.bits.now c.read_block_header.new.bits c.read_content.new.bits _ c.in_ok-header.ensures.reading.counts c.in_ok-header.ensures.reading.reads
      (told_then c.read_block_header.new.bits c.read_content.new.bits c.read_content.new.bits _ c.in_ok-body.ensures.reading.counts (c.in_ok-body.ensures.reading.reads had_room) (λ known same. refl)));
}
