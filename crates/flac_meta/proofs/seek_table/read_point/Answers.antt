use Rattle.std.proofs.Common.{rules}
use Rattle.std.proofs.lemmas.Result.{err_from_is_err_and}
use Rattle.flac_bits.proofs.Counting.{answered_then, failed_then}
use Rattle.flac_bits.proofs.Telling.{told_then, told_fault}
use Rattle.flac_meta.specs.SeekTable.{seek_point}
use Rattle.flac_meta.proofs.seek_table.read_point.Goals as goal

pub returns-in_err-offset : goal.returns-in_err-offset
unfolding seek_point
returns-in_err-offset g c =
    let p = err_from_is_err_and c.from_residual-in_err-offset.result c.from_residual-in_err-offset.ensures.1 in
    rw (p.1, p.2) (record {
      reading = record {
        spends = tt;
        counts = failed_then c.args.bits.now c.take.new.self c.take-2.new.self c.in_ok-sample.ensures.reading.counts c.in_err-offset.ensures.reading.counts;
        reads = told_then c.args.bits.now c.take.new.self c.take-2.new.self _ c.in_ok-sample.ensures.reading.counts c.in_ok-sample.ensures.reading.reads (told_fault c.take.new.self c.take-2.new.self _ c.in_err-offset.ensures.reading.reads);
      };
    })

pub returns-in_err-length : goal.returns-in_err-length
unfolding seek_point
returns-in_err-length g c =
    let p = err_from_is_err_and c.from_residual-in_err-length.result c.from_residual-in_err-length.ensures.1 in
    rw (p.1, p.2) (record {
      reading = record {
        spends = tt;
        counts = failed_then c.args.bits.now c.take.new.self c.take-3.new.self c.in_ok-sample.ensures.reading.counts (failed_then c.take.new.self c.take-2.new.self c.take-3.new.self c.in_ok-offset.ensures.reading.counts c.in_err-length.ensures.reading.counts);
        reads = told_then c.args.bits.now c.take.new.self c.take-3.new.self _ c.in_ok-sample.ensures.reading.counts c.in_ok-sample.ensures.reading.reads (told_then c.take.new.self c.take-2.new.self c.take-3.new.self _ c.in_ok-offset.ensures.reading.counts c.in_ok-offset.ensures.reading.reads (told_fault c.take-2.new.self c.take-3.new.self _ c.in_err-length.ensures.reading.reads));
      };
    })

pub returns : goal.returns
unfolding seek_point
returns g c = record {
  reading = record {
    spends = search rules;
    counts = answered_then c.args.bits.now c.take.new.self c.take-3.new.self c.in_ok-sample.ensures.reading.counts (answered_then c.take.new.self c.take-2.new.self c.take-3.new.self c.in_ok-offset.ensures.reading.counts c.in_ok-length.ensures.reading.counts);
    reads = search rules;
  };
}

pub returns-in_err-sample : goal.returns-in_err-sample
unfolding seek_point
returns-in_err-sample g c =
    let p = err_from_is_err_and c.from_residual.result c.from_residual.ensures.1 in
    rw (p.1, p.2) (record {
      reading = record {
        spends = tt;
        counts = c.in_err-sample.ensures.reading.counts;
        reads = told_fault c.args.bits.now c.take.new.self _ c.in_err-sample.ensures.reading.reads;
      };
    })
