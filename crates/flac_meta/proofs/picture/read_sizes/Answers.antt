use Rattle.std.proofs.lemmas.Result.{err_from_is_err_and}
use Rattle.flac_bits.proofs.Counting.{answered_then, failed_then}
use Rattle.std.proofs.Common.{refl}
use Rattle.flac_bits.proofs.Telling.{told_then, told_fault}
use Rattle.flac_meta.specs.Picture.{sizes}
use Rattle.flac_meta.proofs.Exits.{spends_then}
use Rattle.flac_meta.proofs.picture.read_sizes.Goals as goal

pub returns-in_err-height-clause-reading : goal.returns-in_err-height-clause-reading
unfolding sizes
returns-in_err-height-clause-reading g c =
    let p = err_from_is_err_and c.from_residual-in_err-height.result c.from_residual-in_err-height.ensures.1 in
    rw (p.1, p.2) (record {
      spends = tt;
      counts = failed_then c.args.bits.now c.read_number_32.new.bits c.read_number_32-2.new.bits c.in_ok-width.ensures.reading.counts c.in_err-height.ensures.reading.counts;
      reads = told_then c.args.bits.now c.read_number_32.new.bits c.read_number_32-2.new.bits _ c.in_ok-width.ensures.reading.counts c.in_ok-width.ensures.reading.reads (told_fault c.read_number_32.new.bits c.read_number_32-2.new.bits _ c.in_err-height.ensures.reading.reads);
    })

pub returns-in_err-depth-clause-reading : goal.returns-in_err-depth-clause-reading
unfolding sizes
returns-in_err-depth-clause-reading g c =
    let p = err_from_is_err_and c.from_residual-in_err-depth.result c.from_residual-in_err-depth.ensures.1 in
    rw (p.1, p.2) (record {
      spends = tt;
      counts = failed_then c.args.bits.now c.read_number_32.new.bits c.read_number_32-3.new.bits c.in_ok-width.ensures.reading.counts (failed_then c.read_number_32.new.bits c.read_number_32-2.new.bits c.read_number_32-3.new.bits c.in_ok-height.ensures.reading.counts c.in_err-depth.ensures.reading.counts);
      reads = told_then c.args.bits.now c.read_number_32.new.bits c.read_number_32-3.new.bits _ c.in_ok-width.ensures.reading.counts c.in_ok-width.ensures.reading.reads (told_then c.read_number_32.new.bits c.read_number_32-2.new.bits c.read_number_32-3.new.bits _ c.in_ok-height.ensures.reading.counts c.in_ok-height.ensures.reading.reads (told_fault c.read_number_32-2.new.bits c.read_number_32-3.new.bits _ c.in_err-depth.ensures.reading.reads));
    })

pub returns-in_err-colours-clause-reading : goal.returns-in_err-colours-clause-reading
unfolding sizes
returns-in_err-colours-clause-reading g c =
    let p = err_from_is_err_and c.from_residual-in_err-colours.result c.from_residual-in_err-colours.ensures.1 in
    rw (p.1, p.2) (record {
      spends = tt;
      counts = failed_then c.args.bits.now c.read_number_32.new.bits c.read_number_32-4.new.bits c.in_ok-width.ensures.reading.counts (failed_then c.read_number_32.new.bits c.read_number_32-2.new.bits c.read_number_32-4.new.bits c.in_ok-height.ensures.reading.counts (failed_then c.read_number_32-2.new.bits c.read_number_32-3.new.bits c.read_number_32-4.new.bits c.in_ok-depth.ensures.reading.counts c.in_err-colours.ensures.reading.counts));
      reads = told_then c.args.bits.now c.read_number_32.new.bits c.read_number_32-4.new.bits _ c.in_ok-width.ensures.reading.counts c.in_ok-width.ensures.reading.reads (told_then c.read_number_32.new.bits c.read_number_32-2.new.bits c.read_number_32-4.new.bits _ c.in_ok-height.ensures.reading.counts c.in_ok-height.ensures.reading.reads (told_then c.read_number_32-2.new.bits c.read_number_32-3.new.bits c.read_number_32-4.new.bits _ c.in_ok-depth.ensures.reading.counts c.in_ok-depth.ensures.reading.reads (told_fault c.read_number_32-3.new.bits c.read_number_32-4.new.bits _ c.in_err-colours.ensures.reading.reads)));
    })

pub returns-clause-reading : goal.returns-clause-reading
unfolding sizes
returns-clause-reading g c = record {
  spends = spends_then 0 0 c.args.bits.now.most c.read_number_32.new.bits.most c.read_number_32-4.new.bits.most c.in_ok-width.ensures.reading.spends (spends_then 0 0 c.read_number_32.new.bits.most c.read_number_32-2.new.bits.most c.read_number_32-4.new.bits.most c.in_ok-height.ensures.reading.spends
      (spends_then 0 0 c.read_number_32-2.new.bits.most c.read_number_32-3.new.bits.most c.read_number_32-4.new.bits.most c.in_ok-depth.ensures.reading.spends c.in_ok-colours.ensures.reading.spends));
  counts = answered_then c.args.bits.now c.read_number_32.new.bits c.read_number_32-4.new.bits c.in_ok-width.ensures.reading.counts (answered_then c.read_number_32.new.bits c.read_number_32-2.new.bits c.read_number_32-4.new.bits c.in_ok-height.ensures.reading.counts (answered_then c.read_number_32-2.new.bits c.read_number_32-3.new.bits c.read_number_32-4.new.bits c.in_ok-depth.ensures.reading.counts c.in_ok-colours.ensures.reading.counts));
  reads = told_then c.args.bits.now c.read_number_32.new.bits c.read_number_32-4.new.bits _ c.in_ok-width.ensures.reading.counts c.in_ok-width.ensures.reading.reads (told_then c.read_number_32.new.bits c.read_number_32-2.new.bits c.read_number_32-4.new.bits _ c.in_ok-height.ensures.reading.counts c.in_ok-height.ensures.reading.reads (told_then c.read_number_32-2.new.bits c.read_number_32-3.new.bits c.read_number_32-4.new.bits _ c.in_ok-depth.ensures.reading.counts c.in_ok-depth.ensures.reading.reads (told_then c.read_number_32-3.new.bits c.read_number_32-4.new.bits c.read_number_32-4.new.bits _ c.in_ok-colours.ensures.reading.counts c.in_ok-colours.ensures.reading.reads (λ known same. refl))));
}

pub returns-in_err-width-clause-reading : goal.returns-in_err-width-clause-reading
unfolding sizes
returns-in_err-width-clause-reading g c =
    let p = err_from_is_err_and c.from_residual.result c.from_residual.ensures.1 in
    rw (p.1, p.2) (record {
      spends = tt;
      counts = c.in_err-width.ensures.reading.counts;
      reads = told_fault c.args.bits.now c.read_number_32.new.bits _ c.in_err-width.ensures.reading.reads;
    })
