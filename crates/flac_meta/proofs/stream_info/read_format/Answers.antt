use Rattle.std.proofs.lemmas.Result.{err_from_is_err_and}
use Rattle.flac_bits.proofs.Counting.{answered_then, failed_then}
use Rattle.std.proofs.Common.{refl}
use Rattle.flac_bits.proofs.Telling.{told_then, told_fault}
use Rattle.flac_meta.specs.Info.{info_format}
use Rattle.flac_meta.proofs.Exits.{spends_then}
use Rattle.flac_meta.proofs.stream_info.read_format.Goals as goal

pub returns-in_err-channels-clause-reading : goal.returns-in_err-channels-clause-reading
unfolding info_format
returns-in_err-channels-clause-reading g c =
    let p = err_from_is_err_and c.from_residual-in_err-channels.result c.from_residual-in_err-channels.ensures.1 in
    rw (p.1, p.2) (record {
      spends = tt;
      counts = failed_then c.args.bits.now c.take.new.self c.take-2.new.self c.in_ok-rate.ensures.reading.counts c.in_err-channels.ensures.reading.counts;
      reads = told_then c.args.bits.now c.take.new.self c.take-2.new.self _ c.in_ok-rate.ensures.reading.counts c.in_ok-rate.ensures.reading.reads (told_fault c.take.new.self c.take-2.new.self _ c.in_err-channels.ensures.reading.reads);
    })

pub returns-in_err-depth-clause-reading : goal.returns-in_err-depth-clause-reading
unfolding info_format
returns-in_err-depth-clause-reading g c =
    let p = err_from_is_err_and c.from_residual-in_err-depth.result c.from_residual-in_err-depth.ensures.1 in
    rw (p.1, p.2) (record {
      spends = tt;
      counts = failed_then c.args.bits.now c.take.new.self c.take-3.new.self c.in_ok-rate.ensures.reading.counts (failed_then c.take.new.self c.take-2.new.self c.take-3.new.self c.in_ok-channels.ensures.reading.counts c.in_err-depth.ensures.reading.counts);
      reads = told_then c.args.bits.now c.take.new.self c.take-3.new.self _ c.in_ok-rate.ensures.reading.counts c.in_ok-rate.ensures.reading.reads (told_then c.take.new.self c.take-2.new.self c.take-3.new.self _ c.in_ok-channels.ensures.reading.counts c.in_ok-channels.ensures.reading.reads (told_fault c.take-2.new.self c.take-3.new.self _ c.in_err-depth.ensures.reading.reads));
    })

pub returns-in_err-total-clause-reading : goal.returns-in_err-total-clause-reading
unfolding info_format
returns-in_err-total-clause-reading g c =
    let p = err_from_is_err_and c.from_residual-in_err-total.result c.from_residual-in_err-total.ensures.1 in
    rw (p.1, p.2) (record {
      spends = tt;
      counts = failed_then c.args.bits.now c.take.new.self c.take-4.new.self c.in_ok-rate.ensures.reading.counts (failed_then c.take.new.self c.take-2.new.self c.take-4.new.self c.in_ok-channels.ensures.reading.counts (failed_then c.take-2.new.self c.take-3.new.self c.take-4.new.self c.in_ok-depth.ensures.reading.counts c.in_err-total.ensures.reading.counts));
      reads = told_then c.args.bits.now c.take.new.self c.take-4.new.self _ c.in_ok-rate.ensures.reading.counts c.in_ok-rate.ensures.reading.reads (told_then c.take.new.self c.take-2.new.self c.take-4.new.self _ c.in_ok-channels.ensures.reading.counts c.in_ok-channels.ensures.reading.reads (told_then c.take-2.new.self c.take-3.new.self c.take-4.new.self _ c.in_ok-depth.ensures.reading.counts c.in_ok-depth.ensures.reading.reads (told_fault c.take-3.new.self c.take-4.new.self _ c.in_err-total.ensures.reading.reads)));
    })

pub returns-clause-reading : goal.returns-clause-reading
unfolding info_format
returns-clause-reading g c = record {
  spends = spends_then 20 0 c.args.bits.now.most c.take.new.self.most c.take-4.new.self.most c.in_ok-rate.ensures.reading.spends (spends_then 3 0 c.take.new.self.most c.take-2.new.self.most c.take-4.new.self.most c.in_ok-channels.ensures.reading.spends
      (spends_then 5 36 c.take-2.new.self.most c.take-3.new.self.most c.take-4.new.self.most c.in_ok-depth.ensures.reading.spends c.in_ok-total.ensures.reading.spends));
  counts = answered_then c.args.bits.now c.take.new.self c.take-4.new.self c.in_ok-rate.ensures.reading.counts (answered_then c.take.new.self c.take-2.new.self c.take-4.new.self c.in_ok-channels.ensures.reading.counts (answered_then c.take-2.new.self c.take-3.new.self c.take-4.new.self c.in_ok-depth.ensures.reading.counts c.in_ok-total.ensures.reading.counts));
  reads = told_then c.args.bits.now c.take.new.self c.take-4.new.self _ c.in_ok-rate.ensures.reading.counts c.in_ok-rate.ensures.reading.reads (told_then c.take.new.self c.take-2.new.self c.take-4.new.self _ c.in_ok-channels.ensures.reading.counts c.in_ok-channels.ensures.reading.reads (told_then c.take-2.new.self c.take-3.new.self c.take-4.new.self _ c.in_ok-depth.ensures.reading.counts c.in_ok-depth.ensures.reading.reads (told_then c.take-3.new.self c.take-4.new.self c.take-4.new.self _ c.in_ok-total.ensures.reading.counts c.in_ok-total.ensures.reading.reads (λ known same. refl))));
}

pub returns-in_err-rate-clause-reading : goal.returns-in_err-rate-clause-reading
unfolding info_format
returns-in_err-rate-clause-reading g c =
    let p = err_from_is_err_and c.from_residual.result c.from_residual.ensures.1 in
    rw (p.1, p.2) (record {
      spends = tt;
      counts = c.in_err-rate.ensures.reading.counts;
      reads = told_fault c.args.bits.now c.take.new.self _ c.in_err-rate.ensures.reading.reads;
    })
