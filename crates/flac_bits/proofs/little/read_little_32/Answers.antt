use Rattle.std.proofs.lemmas.Result.{err_from_is_err_and}
use Rattle.flac_bits.proofs.LittleNumbers.{little_read, little_cut}
use Rattle.flac_bits.proofs.little.read_little_32.Goals as goal

pub returns : goal.returns
returns g c =
    let got = c.in_ok-read_bytes.ensures.reading in
    record {
      reading = record {
        spends = got.spends;
        counts = got.counts;
        memory = tt;
        reads = λ known same.
            little_read c.read_u32.result c.read_bytes.new.out c.args.bits.now.cursor c.read_bytes.new.bits.cursor
            (got.reads known same) c.read_u32.ensures;
      };
      needed = c.in_ok-read_bytes.ensures.needed;
    }

pub returns-in_err-read_bytes : goal.returns-in_err-read_bytes
returns-in_err-read_bytes g c =
    let p = err_from_is_err_and c.from_residual.result c.from_residual.ensures.1 in
    let failed = c.in_err-read_bytes.ensures.reading in
    rw (p.1, p.2) (record {
      reading = record {
        spends = tt;
        counts = failed.counts;
        memory = failed.memory;
        reads = λ known same. little_cut _ c.args.bits.now.cursor (failed.reads known same);
      };
      needed = c.in_err-read_bytes.ensures.needed;
    })
