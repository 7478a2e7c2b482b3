use Rattle.std.proofs.Common.{◌≡◌, ℕ, ◌+◌, ◌-◌, ◌<◌, ◌≤◌, rules, refl, sym, ◌∙◌, arith}
use Rattle.std.proofs.lemmas.Result.{err_from_is_err_and}
use Rattle.flac_bits.proofs.Loops.{number_halves, halves_fit, halves_joined}
use Rattle.flac_bits.proofs.Counting.{answered_then, failed_then}
use Rattle.flac_bits.proofs.Turns.{high_cut, low_cut, halves_room}
use Rattle.flac_bits.proofs.Needing.{bits_failed, bits_before}
use Rattle.flac_bits.proofs.reader.BitReader.take_more.Goals as goal

less : (n : ℕ) → n - 32 ≤ n
less n = omega arith

halves : (n : ℕ) → 32 < n → n - 32 + 32 ≡ n
halves n more = omega (arith, more)

pub returns-clause-small : goal.returns-clause-small
returns-clause-small g c = halves_fit c.args.n c.in_ok-high.high c.in_ok-low.low (omega (arith, c.if-n-le32.false)) c.requires c.in_ok-high.ensures.small c.in_ok-low.ensures.small

pub returns-clause-reading : goal.returns-clause-reading
returns-clause-reading g c = record {
  spends = search rules;
  counts = answered_then c.args.self.now c.take_few-2.new.self c.take_few-3.new.self c.in_ok-high.ensures.reading.counts c.in_ok-low.ensures.reading.counts;
  memory = search rules;
  reads = (λ known same.
      let high = c.in_ok-high.ensures in
      let low = c.in_ok-low.ensures in
      rw (number_halves c.args.n c.args.self.now.cursor (omega (arith, c.if-n-le32.false)), high.reading.reads known high.reading.counts.1, low.reading.reads (high.reading.counts.0 known) low.reading.counts.1, halves_joined c.args.n c.in_ok-high.high c.in_ok-low.low c.requires high.small) refl);
}

pub overflow_add-result : goal.overflow_add-result
overflow_add-result g c =
    omega (arith, halves_room c.args.n c.in_ok-high.high c.in_ok-low.low c.requires c.in_ok-high.ensures.small c.in_ok-low.ensures.small)

pub returns-then-n-le32 : goal.returns-then-n-le32
returns-then-n-le32 g c = c.take_few.ensures

pub returns-in_err-high : goal.returns-in_err-high
returns-in_err-high g c =
    let p = err_from_is_err_and c.from_residual.result c.from_residual.ensures.1 in
    let failed = c.in_err-high.ensures.reading in
    rw (p.1, p.2) (record {
      small = tt;
      reading = record {
        spends = tt;
        counts = failed.counts;
        memory = failed.memory;
        reads = λ known same. high_cut c.args.n _ c.args.self.now.cursor (omega (arith, c.if-n-le32.false)) (failed.reads known same);
      };
      needed = bits_before (c.args.n - 32) c.args.n c.args.self.now.held _ (less _) c.in_err-high.ensures.needed;
    })

pub returns-in_err-low : goal.returns-in_err-low
returns-in_err-low g c =
    let p = err_from_is_err_and c.from_residual-in_err-low.result c.from_residual-in_err-low.ensures.1 in
    let high = c.in_ok-high.ensures.reading in
    let failed = c.in_err-low.ensures.reading in
    rw (p.1, p.2) (record {
      small = tt;
      reading = record {
        spends = tt;
        counts = failed_then c.args.self.now c.take_few-2.new.self c.take_few-3.new.self high.counts failed.counts;
        memory = failed.memory;
        reads = λ known same.
            low_cut c.args.n c.in_ok-high.high _ c.args.self.now.cursor c.take_few-2.new.self.cursor (omega (arith, c.if-n-le32.false))
            (high.reads known high.counts.1) (failed.reads (high.counts.0 known) (same ∙ sym high.counts.1));
      };
      needed = bits_failed (c.args.n - 32) 32 c.args.n c.args.self.now.held c.take_few-2.new.self.held _ c.in_ok-high.ensures.needed c.in_err-low.ensures.needed (halves _ (omega (arith, c.if-n-le32.false)));
    })

pub returns-clause-needed : goal.returns-clause-needed
returns-clause-needed g c = omega (arith, c.in_ok-high.ensures.needed, c.in_ok-low.ensures.needed, c.if-n-le32.false)
