use Rattle.std.proofs.Common.{◌-◌}
use Rattle.std.proofs.lemmas.Result.{err_from_is_err_and}
use Rattle.flac_bits.specs.Layout.{run}
use Rattle.flac_bits.proofs.Telling.{told_fault}
use Rattle.flac_meta.specs.Fields.{sized}
use Rattle.flac_meta.specs.inner.Counted.{counted}
use Rattle.flac_meta.proofs.Exits.{spends_last, fits_after}
use Rattle.flac_meta.proofs.Short.{part_short, told_part, counts_then, gives_then, gives_part}
use Rattle.flac_meta.proofs.fields.read_sized_little.Goals as goal

pub returns-then-left-lt4 : goal.returns-then-left-lt4
unfolding sized
returns-then-left-lt4 g c = record {
  fits = tt;
  reading = record {
    spends = tt;
    counts = c.too_short.ensures.counts;
    reads = (λ room. part_short 4 c.args.left _ c.args.bits.now c.too_short.new.bits c.if-left-lt4.true c.too_short.ensures.reads);
  };
}

pub returns-in_err-size : goal.returns-in_err-size
unfolding sized
returns-in_err-size g c =
    let p = err_from_is_err_and c.from_residual.result c.from_residual.ensures.1 in
    let e = c.in_err-size.ensures.reading in
    rw (p.1, p.2) (record {
      fits = tt;
      reading = record {
        spends = tt;
        counts = e.counts;
        reads = (λ room. told_part 4 c.args.left _ c.args.bits.now c.read_little_32.new.bits c.if-left-lt4.false (told_fault c.args.bits.now c.read_little_32.new.bits _ e.reads));
      };
    })

pub returns : goal.returns
unfolding sized
returns g c =
    let old = c.args.bits.now in
    let mid = c.read_little_32.new.bits in
    let new = c.read_counted.new.bits in
    let n = c.in_ok-size.ensures.reading in
    let r = c.read_counted.ensures.reading in
    record {
      fits = fits_after 4 c.args.left c.read_counted.result c.if-left-lt4.false c.read_counted.ensures.fits;
      reading = record {
        spends = spends_last 32 0 old.most mid.most new.most c.read_counted.result n.spends r.spends;
        counts = counts_then old mid new c.read_counted.result n.counts r.counts;
        reads = (λ room. gives_part (λ b. b) 4 c.args.left _ old new c.read_counted.result c.if-left-lt4.false
            (gives_then (λ b. b) old mid new c.read_counted.result (λ size d. run (counted size (c.args.left - 4)) d) n.counts n.reads (r.reads room)));
      };
    }
