use Rattle.std.proofs.Common.{refl}
use Rattle.std.proofs.lemmas.Result.{err_from_is_err_and}
use Rattle.flac_bits.proofs.Counting.{answered_then, failed_then}
use Rattle.flac_bits.proofs.Telling.{told_then, told_fault}
use Rattle.flac_meta.specs.Picture.{picture_front}
use Rattle.flac_meta.proofs.Exits.{had_room, same_room, spends_then}
use Rattle.flac_meta.proofs.picture.read_picture_front.Goals as goal

pub returns-in_err-media-clause-reading : goal.returns-in_err-media-clause-reading
unfolding picture_front
returns-in_err-media-clause-reading g c =
    let p = err_from_is_err_and c.from_residual-in_err-media.result c.from_residual-in_err-media.ensures.1 in
    rw (p.1, p.2) (record {
      spends = tt;
      counts = failed_then c.args.bits.now c.read_number_32.new.bits c.read_sized.new.bits c.in_ok-kind.ensures.reading.counts c.in_err-media.ensures.reading.counts;
      reads = (λ room. told_then c.args.bits.now c.read_number_32.new.bits c.read_sized.new.bits _ c.in_ok-kind.ensures.reading.counts c.in_ok-kind.ensures.reading.reads (told_fault c.read_number_32.new.bits c.read_sized.new.bits _ (c.in_err-media.ensures.reading.reads (same_room room))));
    })

pub returns-in_err-text-clause-reading : goal.returns-in_err-text-clause-reading
unfolding picture_front
returns-in_err-text-clause-reading g c =
    let p = err_from_is_err_and c.from_residual-in_err-text.result c.from_residual-in_err-text.ensures.1 in
    let old = c.args.bits.now in
    let mid = c.read_number_32.new.bits in
    let after = c.read_sized.new.bits in
    let new = c.read_sized-2.new.bits in
    let k = c.in_ok-kind.ensures.reading in
    let m = c.in_ok-media.ensures.reading in
    let e = c.in_err-text.ensures.reading in
    rw (p.1, p.2) (record {
      spends = tt;
      counts = failed_then old mid new k.counts (failed_then mid after new m.counts e.counts);
      reads = (λ room. told_then old mid new _ k.counts k.reads (told_then mid after new _ m.counts (m.reads had_room)
          (told_fault after new _ ((rw c.len.ensures at e.reads) (same_room room)))));
    })

pub returns-clause-reading : goal.returns-clause-reading
unfolding picture_front
returns-clause-reading g c =
    let old = c.args.bits.now in
    let mid = c.read_number_32.new.bits in
    let after = c.read_sized.new.bits in
    let new = c.read_sized-2.new.bits in
    let k = c.in_ok-kind.ensures.reading in
    let m = c.in_ok-media.ensures.reading in
    let t = c.in_ok-text.ensures.reading in
    record {
      spends = spends_then 0 0 old.most mid.most new.most k.spends (spends_then 0 0 mid.most after.most new.most m.spends t.spends);
      counts = answered_then old mid new k.counts (answered_then mid after new m.counts t.counts);
      reads = (λ room. told_then old mid new _ k.counts k.reads (told_then mid after new _ m.counts (m.reads had_room)
          (told_then after new new _ t.counts ((rw c.len.ensures at t.reads) had_room) (λ known same. refl))));
    }

pub returns-in_err-kind-clause-reading : goal.returns-in_err-kind-clause-reading
unfolding picture_front
returns-in_err-kind-clause-reading g c =
    let p = err_from_is_err_and c.from_residual.result c.from_residual.ensures.1 in
    rw (p.1, p.2) (record {
      spends = tt;
      counts = c.in_err-kind.ensures.reading.counts;
      reads = (λ room. told_fault c.args.bits.now c.read_number_32.new.bits _ c.in_err-kind.ensures.reading.reads);
    })
