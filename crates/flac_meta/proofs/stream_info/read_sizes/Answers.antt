use Rattle.std.proofs.lemmas.Result.{err_from_is_err_and}
use Rattle.flac_bits.proofs.Counting.{answered_then, failed_then}
use Rattle.std.proofs.Common.{refl}
use Rattle.flac_bits.proofs.Telling.{told_then, told_fault}
use Rattle.flac_meta.specs.Info.{info_sizes}
use Rattle.flac_meta.proofs.Exits.{spends_then}
use Rattle.flac_meta.proofs.stream_info.read_sizes.Goals as goal

pub returns-in_err-greatest_block-clause-reading : goal.returns-in_err-greatest_block-clause-reading
unfolding info_sizes
returns-in_err-greatest_block-clause-reading g c =
    let p = err_from_is_err_and c.from_residual-in_err-greatest_block.result c.from_residual-in_err-greatest_block.ensures.1 in
    rw (p.1, p.2) (record {
      spends = tt;
      counts = failed_then c.args.bits.now c.take.new.self c.take-2.new.self c.in_ok-least_block.ensures.reading.counts c.in_err-greatest_block.ensures.reading.counts;
      reads = told_then c.args.bits.now c.take.new.self c.take-2.new.self _ c.in_ok-least_block.ensures.reading.counts c.in_ok-least_block.ensures.reading.reads (told_fault c.take.new.self c.take-2.new.self _ c.in_err-greatest_block.ensures.reading.reads);
    })

pub returns-in_err-least_frame-clause-reading : goal.returns-in_err-least_frame-clause-reading
unfolding info_sizes
returns-in_err-least_frame-clause-reading g c =
    let p = err_from_is_err_and c.from_residual-in_err-least_frame.result c.from_residual-in_err-least_frame.ensures.1 in
    rw (p.1, p.2) (record {
      spends = tt;
      counts = failed_then c.args.bits.now c.take.new.self c.take-3.new.self c.in_ok-least_block.ensures.reading.counts (failed_then c.take.new.self c.take-2.new.self c.take-3.new.self c.in_ok-greatest_block.ensures.reading.counts c.in_err-least_frame.ensures.reading.counts);
      reads = told_then c.args.bits.now c.take.new.self c.take-3.new.self _ c.in_ok-least_block.ensures.reading.counts c.in_ok-least_block.ensures.reading.reads (told_then c.take.new.self c.take-2.new.self c.take-3.new.self _ c.in_ok-greatest_block.ensures.reading.counts c.in_ok-greatest_block.ensures.reading.reads (told_fault c.take-2.new.self c.take-3.new.self _ c.in_err-least_frame.ensures.reading.reads));
    })

pub returns-in_err-greatest_frame-clause-reading : goal.returns-in_err-greatest_frame-clause-reading
unfolding info_sizes
returns-in_err-greatest_frame-clause-reading g c =
    let p = err_from_is_err_and c.from_residual-in_err-greatest_frame.result c.from_residual-in_err-greatest_frame.ensures.1 in
    rw (p.1, p.2) (record {
      spends = tt;
      counts = failed_then c.args.bits.now c.take.new.self c.take-4.new.self c.in_ok-least_block.ensures.reading.counts (failed_then c.take.new.self c.take-2.new.self c.take-4.new.self c.in_ok-greatest_block.ensures.reading.counts (failed_then c.take-2.new.self c.take-3.new.self c.take-4.new.self c.in_ok-least_frame.ensures.reading.counts c.in_err-greatest_frame.ensures.reading.counts));
      reads = told_then c.args.bits.now c.take.new.self c.take-4.new.self _ c.in_ok-least_block.ensures.reading.counts c.in_ok-least_block.ensures.reading.reads (told_then c.take.new.self c.take-2.new.self c.take-4.new.self _ c.in_ok-greatest_block.ensures.reading.counts c.in_ok-greatest_block.ensures.reading.reads (told_then c.take-2.new.self c.take-3.new.self c.take-4.new.self _ c.in_ok-least_frame.ensures.reading.counts c.in_ok-least_frame.ensures.reading.reads (told_fault c.take-3.new.self c.take-4.new.self _ c.in_err-greatest_frame.ensures.reading.reads)));
    })

pub returns-clause-reading : goal.returns-clause-reading
unfolding info_sizes
returns-clause-reading g c = record {
  spends = spends_then 16 0 c.args.bits.now.most c.take.new.self.most c.take-4.new.self.most c.in_ok-least_block.ensures.reading.spends (spends_then 16 0 c.take.new.self.most c.take-2.new.self.most c.take-4.new.self.most c.in_ok-greatest_block.ensures.reading.spends
      (spends_then 24 24 c.take-2.new.self.most c.take-3.new.self.most c.take-4.new.self.most c.in_ok-least_frame.ensures.reading.spends c.in_ok-greatest_frame.ensures.reading.spends));
  counts = answered_then c.args.bits.now c.take.new.self c.take-4.new.self c.in_ok-least_block.ensures.reading.counts (answered_then c.take.new.self c.take-2.new.self c.take-4.new.self c.in_ok-greatest_block.ensures.reading.counts (answered_then c.take-2.new.self c.take-3.new.self c.take-4.new.self c.in_ok-least_frame.ensures.reading.counts c.in_ok-greatest_frame.ensures.reading.counts));
  reads = told_then c.args.bits.now c.take.new.self c.take-4.new.self _ c.in_ok-least_block.ensures.reading.counts c.in_ok-least_block.ensures.reading.reads (told_then c.take.new.self c.take-2.new.self c.take-4.new.self _ c.in_ok-greatest_block.ensures.reading.counts c.in_ok-greatest_block.ensures.reading.reads (told_then c.take-2.new.self c.take-3.new.self c.take-4.new.self _ c.in_ok-least_frame.ensures.reading.counts c.in_ok-least_frame.ensures.reading.reads (told_then c.take-3.new.self c.take-4.new.self c.take-4.new.self _ c.in_ok-greatest_frame.ensures.reading.counts c.in_ok-greatest_frame.ensures.reading.reads (λ known same. refl))));
}

pub returns-in_err-least_block-clause-reading : goal.returns-in_err-least_block-clause-reading
unfolding info_sizes
returns-in_err-least_block-clause-reading g c =
    let p = err_from_is_err_and c.from_residual.result c.from_residual.ensures.1 in
    rw (p.1, p.2) (record {
      spends = tt;
      counts = c.in_err-least_block.ensures.reading.counts;
      reads = told_fault c.args.bits.now c.take.new.self _ c.in_err-least_block.ensures.reading.reads;
    })
