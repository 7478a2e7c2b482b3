use Rattle.std.proofs.Common.{rules}
use Rattle.std.proofs.lemmas.Result.{err_from_is_err_and}
use Rattle.flac_bits.proofs.Signs.{signed_kept}
use Rattle.flac_bits.proofs.Values.{signed_read, signed_cut}
use Rattle.flac_bits.proofs.reader.BitReader.take_signed.Goals as goal
use Rattle.flac_bits.proofs.reader.BitReader.take_signed.Goals as goal

pub returns-clause-fits : goal.returns-clause-fits
returns-clause-fits g c = search rules

pub to_signed-requires : goal.to_signed-requires
to_signed-requires g c = record { some = c.requires.some; few = c.requires.few; small = c.in_ok-value.ensures.small }

pub returns-clause-reading : goal.returns-clause-reading
returns-clause-reading g c =
    let z = c.to_signed.result in
    let got = c.in_ok-value.ensures.reading in
    rw (signed_kept c.args.n z c.requires.some c.requires.few c.to_signed.ensures.fits) (record {
      spends = got.spends;
      counts = got.counts;
      memory = tt;
      reads = λ known same.
          signed_read c.args.n c.in_ok-value.value z c.args.self.now.cursor c.take.new.self.cursor (got.reads known same)
          c.to_signed.ensures.value;
    })

pub returns-in_err-value : goal.returns-in_err-value
returns-in_err-value g c =
    let p = err_from_is_err_and c.from_residual.result c.from_residual.ensures.1 in
    let failed = c.in_err-value.ensures.reading in
    rw (p.1, p.2) (record {
      fits = tt;
      reading = record {
        spends = tt;
        counts = failed.counts;
        memory = failed.memory;
        reads = λ known same. signed_cut c.args.n _ c.args.self.now.cursor (failed.reads known same);
      };
      needed = c.in_err-value.ensures.needed;
    })

pub returns-clause-needed : goal.returns-clause-needed
returns-clause-needed g c = c.in_ok-value.ensures.needed
