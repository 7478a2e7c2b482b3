use Rattle.std.proofs.Common.{◌*◌, refl}
use Rattle.std.proofs.lemmas.Result.{err_from_is_err_and}
use Rattle.flac_bits.proofs.Counting.{answered_then, failed_then}
use Rattle.flac_bits.proofs.Telling.{told_then, told_fault}
use Rattle.flac_meta.specs.Block.{application}
use Rattle.flac_meta.proofs.Exits.{had_room, same_room, spends_then}
use Rattle.flac_meta.proofs.block.read_application.Goals as goal

pub returns-in_err-read_bytes : goal.returns-in_err-read_bytes
unfolding application
returns-in_err-read_bytes g c =
    let p = err_from_is_err_and c.from_residual.result c.from_residual.ensures.1 in
    rw (p.1, p.2) (record { reading = record { spends = tt; counts = c.in_err-read_bytes.ensures.reading.counts; reads = λ room. told_fault c.args.bits.now c.read_bytes.new.bits _ c.in_err-read_bytes.ensures.reading.reads } })

pub returns-in_err-bytes : goal.returns-in_err-bytes
unfolding application
returns-in_err-bytes g c =
    let p = err_from_is_err_and c.from_residual-in_err-bytes.result c.from_residual-in_err-bytes.ensures.1 in
    rw (p.1, p.2) (record {
      reading = record {
        spends = tt;
        counts = failed_then c.args.bits.now c.read_bytes.new.bits c.read_raw.new.bits c.in_ok-read_bytes.ensures.reading.counts c.in_err-bytes.ensures.reading.counts;
        reads = λ room. told_then c.args.bits.now c.read_bytes.new.bits c.read_raw.new.bits _ c.in_ok-read_bytes.ensures.reading.counts c.in_ok-read_bytes.ensures.reading.reads
            (told_fault c.read_bytes.new.bits c.read_raw.new.bits _ (c.in_err-bytes.ensures.reading.reads (same_room room)));
      };
    })

pub returns : goal.returns
unfolding application
returns g c = record {
  reading = record {
    spends = spends_then (8 * 4) 0 c.args.bits.now.most c.read_bytes.new.bits.most c.read_raw.new.bits.most c.in_ok-read_bytes.ensures.reading.spends c.in_ok-bytes.ensures.reading.spends;
    counts = answered_then c.args.bits.now c.read_bytes.new.bits c.read_raw.new.bits c.in_ok-read_bytes.ensures.reading.counts c.in_ok-bytes.ensures.reading.counts;
    reads = (λ room. told_then c.args.bits.now c.read_bytes.new.bits c.read_raw.new.bits _ c.in_ok-read_bytes.ensures.reading.counts c.in_ok-read_bytes.ensures.reading.reads
        (told_then c.read_bytes.new.bits c.read_raw.new.bits c.read_raw.new.bits _ c.in_ok-bytes.ensures.reading.counts (c.in_ok-bytes.ensures.reading.reads had_room) (λ known same. refl)));
  };
}
