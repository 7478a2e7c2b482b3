use Rattle.std.proofs.Common.{◌≡◌, ◌+◌, ◌≤◌, ℕ, rules, refl, arith}
use Rattle.std.proofs.lemmas.Result.{err_from_is_err_and}
use Rattle.flac_bits.specs.declared.why.Why.TheVariants.{ResidualRange, Memory, Read}
use Rattle.flac_bits.proofs.Counting.{answered_then, failed_then, refused_then}
use Rattle.flac_bits.proofs.Values.{rice_cut}
use Rattle.flac_bits.proofs.Needing.{bits_held, rice_ends, rice_first}
use Rattle.flac_bits.proofs.reader.BitReader.rice_slow.Goals as goal

range_no_memory : ResidualRange ≡ Memory → ⊥
range_no_memory q = cc

range_no_read : ResidualRange ≡ Read → ⊥
range_no_read q = cc

spent : (k new mid old : ℕ) → new + k ≤ mid → mid + 0 ≤ old → new + 0 ≤ old
spent k new mid old a b = omega (arith, a, b)

pub returns-in_default : goal.returns-in_default
unfolding Rattle.flac_bits.specs.Rice.rice
returns-in_default g c = record {
  reading = record {
    spends = tt;
    counts = refused_then c.args.self.now c.unary.new.self c.in_ok-zeros.ensures.reading.counts refl;
    memory = range_no_memory;
    reads = search rules;
  };
  needed = λ e. absurd (range_no_read e);
}

pub returns-in_err-low : goal.returns-in_err-low
unfolding Rattle.flac_bits.specs.Rice.rice
returns-in_err-low g c =
    let p = err_from_is_err_and c.from_residual-in_err-low.result c.from_residual-in_err-low.ensures.1 in
    rw (p.1, p.2) (record {
      reading = record {
        spends = tt;
        counts = failed_then c.args.self.now c.unary.new.self c.take.new.self c.in_ok-zeros.ensures.reading.counts c.in_err-low.ensures.reading.counts;
        memory = c.in_err-low.ensures.reading.memory;
        reads = search rules;
      };
      needed = λ read known.
          let zeros = c.in_ok-zeros.ensures in
          rice_ends c.args.k c.args.limit _ _ c.args.self.now c.unary.new.self c.in-Some.is (zeros.reading.reads known zeros.reading.counts.1) (zeros.needed known) (c.in_err-low.ensures.needed read);
    })

pub returns : goal.returns
unfolding Rattle.flac_bits.specs.Rice.rice
returns g c = record {
  reading = record {
    spends = spent c.args.k _ _ _ c.in_ok-low.ensures.reading.spends c.in_ok-zeros.ensures.reading.spends;
    counts = answered_then c.args.self.now c.unary.new.self c.take.new.self c.in_ok-zeros.ensures.reading.counts c.in_ok-low.ensures.reading.counts;
    memory = tt;
    reads = search rules;
  };
  needed = λ known.
      let zeros = c.in_ok-zeros.ensures in
      let low = c.in_ok-low.ensures in
      omega (arith, zeros.needed known, bits_held c.args.k c.in_ok-low.low c.unary.new.self c.take.new.self low.needed (λ k. low.reading.reads k low.reading.counts.1) (zeros.reading.counts.0 known));
}

pub returns-in_err-zeros : goal.returns-in_err-zeros
returns-in_err-zeros g c =
    let p = err_from_is_err_and c.from_residual.result c.from_residual.ensures.1 in
    let failed = c.in_err-zeros.ensures.reading in
    rw (p.1, p.2) (record {
      reading = record {
        spends = tt;
        counts = failed.counts;
        memory = failed.memory;
        reads = λ known same. rice_cut c.args.k c.args.limit _ c.args.self.now.cursor (failed.reads known same);
      };
      needed = λ read known. rice_first c.args.k c.args.limit c.args.self.now (c.in_err-zeros.ensures.needed read known);
    })
