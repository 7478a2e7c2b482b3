use Rattle.std.proofs.Common.{refl, arith, rules}
use Rattle.std.proofs.lemmas.Result.{err_from_is_err_and}
use Rattle.flac_bits.proofs.Counting.{answered_then, failed_then}
use Rattle.flac_bits.proofs.Needing.{bits_failed}
use Rattle.flac_bits.proofs.little.read_little_64.Goals as goal

pub returns-in_err-high : goal.returns-in_err-high
unfolding Rattle.flac_bits.specs.LittleEndian.little_64
returns-in_err-high g c =
    let p = err_from_is_err_and c.from_residual-in_err-high.result c.from_residual-in_err-high.ensures.1 in
    rw (p.1, p.2) (record {
      reading = record {
        spends = tt;
        counts = failed_then c.args.bits.now c.read_little_32.new.bits c.read_little_32-2.new.bits c.in_ok-low.ensures.reading.counts c.in_err-high.ensures.reading.counts;
        memory = c.in_err-high.ensures.reading.memory;
        reads = search rules;
      };
      needed = bits_failed 32 32 64 c.args.bits.now.held c.read_little_32.new.bits.held _ c.in_ok-low.ensures.needed c.in_err-high.ensures.needed refl;
    })

pub returns : goal.returns
unfolding Rattle.flac_bits.specs.LittleEndian.little_64
returns g c = record {
  reading = record {
    spends = search rules;
    counts = answered_then c.args.bits.now c.read_little_32.new.bits c.read_little_32-2.new.bits c.in_ok-low.ensures.reading.counts c.in_ok-high.ensures.reading.counts;
    memory = tt;
    reads = search rules;
  };
  needed = omega (arith, c.in_ok-low.ensures.needed, c.in_ok-high.ensures.needed);
}
