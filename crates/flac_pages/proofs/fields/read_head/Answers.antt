use Rattle.std.proofs.Common.{rules}
use Rattle.std.proofs.lemmas.Result.{err_from_is_err_and}
use Rattle.flac_bits.proofs.Counting.{answered_then, failed_then}
use Rattle.flac_pages.proofs.fields.read_head.Goals as goal

pub returns-in_err-version : goal.returns-in_err-version
unfolding Rattle.flac_pages.specs.Page.head_after
returns-in_err-version g c =
    let p = err_from_is_err_and c.from_residual-in_err-version.result c.from_residual-in_err-version.ensures.1 in
    rw (p.1, p.2) (record {
      reading = record {
        spends = tt;
        counts = failed_then c.args.reader.now c.take.new.self c.take-2.new.self c.in_ok-pattern.ensures.reading.counts c.in_err-version.ensures.reading.counts;
        memory = c.in_err-version.ensures.reading.memory;
        reads = search rules;
      };
    })

pub returns-in_err-flags : goal.returns-in_err-flags
unfolding Rattle.flac_pages.specs.Page.head_after
returns-in_err-flags g c =
    let p = err_from_is_err_and c.from_residual-in_err-flags.result c.from_residual-in_err-flags.ensures.1 in
    rw (p.1, p.2) (record {
      reading = record {
        spends = tt;
        counts = failed_then c.args.reader.now c.take.new.self c.take-3.new.self c.in_ok-pattern.ensures.reading.counts (failed_then c.take.new.self c.take-2.new.self c.take-3.new.self c.in_ok-version.ensures.reading.counts c.in_err-flags.ensures.reading.counts);
        memory = c.in_err-flags.ensures.reading.memory;
        reads = search rules;
      };
    })

pub returns-in_err-granule : goal.returns-in_err-granule
unfolding Rattle.flac_pages.specs.Page.head_after
returns-in_err-granule g c =
    let p = err_from_is_err_and c.from_residual-in_err-granule.result c.from_residual-in_err-granule.ensures.1 in
    rw (p.1, p.2) (record {
      reading = record {
        spends = tt;
        counts = failed_then c.args.reader.now c.take.new.self c.read_little_64.new.bits c.in_ok-pattern.ensures.reading.counts (failed_then c.take.new.self c.take-2.new.self c.read_little_64.new.bits c.in_ok-version.ensures.reading.counts (failed_then c.take-2.new.self c.take-3.new.self c.read_little_64.new.bits c.in_ok-flags.ensures.reading.counts c.in_err-granule.ensures.reading.counts));
        memory = c.in_err-granule.ensures.reading.memory;
        reads = search rules;
      };
    })

pub returns-in_err-serial : goal.returns-in_err-serial
unfolding Rattle.flac_pages.specs.Page.head_after
returns-in_err-serial g c =
    let p = err_from_is_err_and c.from_residual-in_err-serial.result c.from_residual-in_err-serial.ensures.1 in
    rw (p.1, p.2) (record {
      reading = record {
        spends = tt;
        counts = failed_then c.args.reader.now c.take.new.self c.read_little_32.new.bits c.in_ok-pattern.ensures.reading.counts (failed_then c.take.new.self c.take-2.new.self c.read_little_32.new.bits c.in_ok-version.ensures.reading.counts (failed_then c.take-2.new.self c.take-3.new.self c.read_little_32.new.bits c.in_ok-flags.ensures.reading.counts (failed_then c.take-3.new.self c.read_little_64.new.bits c.read_little_32.new.bits c.in_ok-granule.ensures.reading.counts c.in_err-serial.ensures.reading.counts)));
        memory = c.in_err-serial.ensures.reading.memory;
        reads = search rules;
      };
    })

pub returns-in_err-sequence : goal.returns-in_err-sequence
unfolding Rattle.flac_pages.specs.Page.head_after
returns-in_err-sequence g c =
    let p = err_from_is_err_and c.from_residual-in_err-sequence.result c.from_residual-in_err-sequence.ensures.1 in
    rw (p.1, p.2) (record {
      reading = record {
        spends = tt;
        counts = failed_then c.args.reader.now c.take.new.self c.read_little_32-2.new.bits c.in_ok-pattern.ensures.reading.counts (failed_then c.take.new.self c.take-2.new.self c.read_little_32-2.new.bits c.in_ok-version.ensures.reading.counts (failed_then c.take-2.new.self c.take-3.new.self c.read_little_32-2.new.bits c.in_ok-flags.ensures.reading.counts (failed_then c.take-3.new.self c.read_little_64.new.bits c.read_little_32-2.new.bits c.in_ok-granule.ensures.reading.counts (failed_then c.read_little_64.new.bits c.read_little_32.new.bits c.read_little_32-2.new.bits c.in_ok-serial.ensures.reading.counts c.in_err-sequence.ensures.reading.counts))));
        memory = c.in_err-sequence.ensures.reading.memory;
        reads = search rules;
      };
    })

pub returns-in_err-sum : goal.returns-in_err-sum
unfolding Rattle.flac_pages.specs.Page.head_after
returns-in_err-sum g c =
    let p = err_from_is_err_and c.from_residual-in_err-sum.result c.from_residual-in_err-sum.ensures.1 in
    rw (p.1, p.2) (record {
      reading = record {
        spends = tt;
        counts = failed_then c.args.reader.now c.take.new.self c.read_little_32-3.new.bits c.in_ok-pattern.ensures.reading.counts (failed_then c.take.new.self c.take-2.new.self c.read_little_32-3.new.bits c.in_ok-version.ensures.reading.counts (failed_then c.take-2.new.self c.take-3.new.self c.read_little_32-3.new.bits c.in_ok-flags.ensures.reading.counts (failed_then c.take-3.new.self c.read_little_64.new.bits c.read_little_32-3.new.bits c.in_ok-granule.ensures.reading.counts (failed_then c.read_little_64.new.bits c.read_little_32.new.bits c.read_little_32-3.new.bits c.in_ok-serial.ensures.reading.counts (failed_then c.read_little_32.new.bits c.read_little_32-2.new.bits c.read_little_32-3.new.bits c.in_ok-sequence.ensures.reading.counts c.in_err-sum.ensures.reading.counts)))));
        memory = c.in_err-sum.ensures.reading.memory;
        reads = search rules;
      };
    })

pub returns : goal.returns
unfolding Rattle.flac_pages.specs.Page.head_after
returns g c = record {
  reading = record {
    spends = search rules;
    counts = answered_then c.args.reader.now c.take.new.self c.read_little_32-3.new.bits c.in_ok-pattern.ensures.reading.counts (answered_then c.take.new.self c.take-2.new.self c.read_little_32-3.new.bits c.in_ok-version.ensures.reading.counts (answered_then c.take-2.new.self c.take-3.new.self c.read_little_32-3.new.bits c.in_ok-flags.ensures.reading.counts (answered_then c.take-3.new.self c.read_little_64.new.bits c.read_little_32-3.new.bits c.in_ok-granule.ensures.reading.counts (answered_then c.read_little_64.new.bits c.read_little_32.new.bits c.read_little_32-3.new.bits c.in_ok-serial.ensures.reading.counts (answered_then c.read_little_32.new.bits c.read_little_32-2.new.bits c.read_little_32-3.new.bits c.in_ok-sequence.ensures.reading.counts c.in_ok-sum.ensures.reading.counts)))));
    memory = tt;
    reads = search rules;
  };
}
