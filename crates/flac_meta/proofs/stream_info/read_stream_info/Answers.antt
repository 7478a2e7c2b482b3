use Rattle.std.proofs.Common.{rules, refl}
use Rattle.std.proofs.lemmas.Result.{err_from_is_err_and}
use Rattle.flac_bits.proofs.Counting.{answered_then, failed_then}
use Rattle.flac_bits.proofs.Telling.{told_then, told_fault}
use Rattle.flac_meta.specs.Info.{stream_info}
use Rattle.flac_meta.proofs.Infos.{told_made, counted_made, spent_made}
use Rattle.flac_meta.proofs.stream_info.read_stream_info.Goals as goal

pub returns-in_err-format : goal.returns-in_err-format
unfolding stream_info
returns-in_err-format g c =
    let p = err_from_is_err_and c.from_residual-in_err-format.result c.from_residual-in_err-format.ensures.1 in
    rw (p.1, p.2) (record {
      reading = record {
        spends = tt;
        counts = failed_then c.args.bits.now c.read_sizes.new.bits c.read_format.new.bits c.in_ok-sizes.ensures.reading.counts c.in_err-format.ensures.reading.counts;
        reads = told_then c.args.bits.now c.read_sizes.new.bits c.read_format.new.bits _ c.in_ok-sizes.ensures.reading.counts c.in_ok-sizes.ensures.reading.reads (told_fault c.read_sizes.new.bits c.read_format.new.bits _ c.in_err-format.ensures.reading.reads);
      };
    })

pub returns-in_err-read_bytes : goal.returns-in_err-read_bytes
unfolding stream_info
returns-in_err-read_bytes g c =
    let p = err_from_is_err_and c.from_residual-in_err-read_bytes.result c.from_residual-in_err-read_bytes.ensures.1 in
    rw (p.1, p.2) (record {
      reading = record {
        spends = tt;
        counts = failed_then c.args.bits.now c.read_sizes.new.bits c.read_bytes.new.bits c.in_ok-sizes.ensures.reading.counts (failed_then c.read_sizes.new.bits c.read_format.new.bits c.read_bytes.new.bits c.in_ok-format.ensures.reading.counts c.in_err-read_bytes.ensures.reading.counts);
        reads = told_then c.args.bits.now c.read_sizes.new.bits c.read_bytes.new.bits _ c.in_ok-sizes.ensures.reading.counts c.in_ok-sizes.ensures.reading.reads (told_then c.read_sizes.new.bits c.read_format.new.bits c.read_bytes.new.bits _ c.in_ok-format.ensures.reading.counts c.in_ok-format.ensures.reading.reads (told_fault c.read_format.new.bits c.read_bytes.new.bits _ c.in_err-read_bytes.ensures.reading.reads));
      };
    })

pub returns : goal.returns
unfolding stream_info
returns g c =
    let sizes = c.in_ok-sizes.ensures in
    let format = c.in_ok-format.ensures in
    record {
      reading = record {
        spends = spent_made 0 0 c.args.bits.now.most c.read_sizes.new.bits.most c.read_bytes.new.bits.most c.new.result sizes.reading.spends (search rules);
        counts = counted_made _ c.args.bits.now c.read_bytes.new.bits c.new.result (answered_then c.args.bits.now c.read_sizes.new.bits c.read_bytes.new.bits sizes.reading.counts (answered_then c.read_sizes.new.bits c.read_format.new.bits c.read_bytes.new.bits format.reading.counts c.in_ok-read_bytes.ensures.reading.counts)) c.new.ensures.refused;
        reads = told_made _ c.args.bits.now c.read_bytes.new.bits c.new.result
            (told_then c.args.bits.now c.read_sizes.new.bits c.read_bytes.new.bits _ sizes.reading.counts sizes.reading.reads (told_then c.read_sizes.new.bits c.read_format.new.bits c.read_bytes.new.bits _ format.reading.counts format.reading.reads
            (told_then c.read_format.new.bits c.read_bytes.new.bits c.read_bytes.new.bits _ c.in_ok-read_bytes.ensures.reading.counts c.in_ok-read_bytes.ensures.reading.reads (λ known same. refl))))
            (record { greatest_block = search rules; least_frame = sizes.fit.0; greatest_frame = sizes.fit.1; rate = format.fit.0; least_channels = format.fit.1; channels = format.fit.2; depth = format.fit.3; total = format.fit.4 })
            c.new.ensures.value c.new.ensures.rules c.new.ensures.refused;
      };
    }

pub returns-in_err-sizes : goal.returns-in_err-sizes
unfolding stream_info
returns-in_err-sizes g c =
    let p = err_from_is_err_and c.from_residual.result c.from_residual.ensures.1 in
    rw (p.1, p.2) (record {
      reading = record {
        spends = tt;
        counts = c.in_err-sizes.ensures.reading.counts;
        reads = told_fault c.args.bits.now c.read_sizes.new.bits _ c.in_err-sizes.ensures.reading.reads;
      };
    })
