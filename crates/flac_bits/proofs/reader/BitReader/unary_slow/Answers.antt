use Rattle.std.proofs.Common.{◌≤◌, ◌+◌, sym, ◌∙◌, arith, rules}
use Rattle.std.proofs.lemmas.Result.{err_from_is_err_and}
use Rattle.flac_bits.proofs.Counting.{gone, answered_then, failed_then}
use Rattle.flac_bits.proofs.Turns.{zeros_start, zeros_turn, zeros_past, zeros_cut, zeros_cut_last}
use Rattle.flac_bits.proofs.Needing.{zeros_none, zeros_more, zeros_past as zeros_over, zeros_end, zeros_held}
use Rattle.flac_bits.proofs.reader.BitReader.unary_slow.Goals as goal

pub returns-in_err-bit-clause-reading : goal.returns-in_err-bit-clause-reading
unfolding Rattle.flac_bits.specs.Layout.zeros_at
returns-in_err-bit-clause-reading g c =
    let p = err_from_is_err_and c.from_residual.result c.from_residual.ensures.1 in
    rw (p.1, p.2) (record {
      spends = tt;
      counts = failed_then c.args.self.now c.loop-zeros.self c.bit.new.self (gone c.loop-zeros.invariant.goes) c.in_err-bit.ensures.reading.counts;
      memory = c.in_err-bit.ensures.reading.memory;
      reads = λ known same.
          let goes = c.loop-zeros.invariant.goes in
          zeros_cut c.args.limit c.loop-zeros.zeros _ c.args.self.now c.loop-zeros.self c.loop-zeros-test.true goes known
          (c.in_err-bit.ensures.reading.reads (goes.known known) (same ∙ sym goes.errors));
    })

pub returns-then-branch-clause-reading : goal.returns-then-branch-clause-reading
unfolding Rattle.flac_bits.specs.Layout.zeros_at Rattle.flac_bits.specs.Layout.zeros_from
returns-then-branch-clause-reading g c = record {
  spends = search rules;
  counts = answered_then c.args.self.now c.loop-zeros.self c.bit.new.self (gone c.loop-zeros.invariant.goes) c.in_ok-bit.ensures.reading.counts;
  memory = tt;
  reads = search rules;
}

pub returns-then-branch-2-clause-reading : goal.returns-then-branch-2-clause-reading
unfolding Rattle.flac_bits.specs.Layout.zeros_at Rattle.flac_bits.specs.Layout.zeros_from
returns-then-branch-2-clause-reading g c = record {
  spends = search rules;
  counts = answered_then c.args.self.now c.loop-zeros.self c.bit-2.new.self (gone c.loop-zeros.invariant.goes) c.in_ok-bit-2.ensures.reading.counts;
  memory = tt;
  reads = search rules;
}

pub returns-clause-reading : goal.returns-clause-reading
unfolding Rattle.flac_bits.specs.Layout.zeros_at Rattle.flac_bits.specs.Layout.zeros_from
returns-clause-reading g c = record {
  spends = search rules;
  counts = answered_then c.args.self.now c.loop-zeros.self c.bit-2.new.self (gone c.loop-zeros.invariant.goes) c.in_ok-bit-2.ensures.reading.counts;
  memory = tt;
  reads = search rules;
}

pub loop-zeros-init : goal.loop-zeros-init
loop-zeros-init g c = record { within = omega arith; goes = zeros_start c.args.limit c.args.self.now; zeros = zeros_none c.args.self.now; spent = omega arith }

pub loop-zeros-preserved : goal.loop-zeros-preserved
loop-zeros-preserved g c =
    let inv = c.loop-zeros.invariant in
    let got = c.in_ok-bit.ensures.reading in
    let limit = c.args.limit in
    let old = c.args.self.now in
    let i = c.loop-zeros.zeros in
    let q = c.skip_zeros-zeros.result in
    let skipped = c.skip_zeros-zeros.ensures.skipped in
    let room : i + 1 + q ≤ limit = omega (arith, c.skip_zeros-zeros.ensures.few, c.loop-zeros-test.true) in
    let goes = zeros_turn limit i c.in_ok-bit.field-0 old c.loop-zeros.self c.bit.new.self c.loop-zeros-test.true c.if-branch.false inv.goes got.counts got.reads in
    let zeros = zeros_more i c.in_ok-bit.field-0 old c.loop-zeros.self c.bit.new.self inv.goes.known inv.zeros c.if-branch.false c.in_ok-bit.ensures.needed (λ known. got.reads known got.counts.1) in
    record {
      within = room;
      goes = zeros_past limit (i + 1) q old c.bit.new.self c.skip_zeros-zeros.new.self room skipped goes;
      zeros = zeros_over (i + 1) q old c.bit.new.self c.skip_zeros-zeros.new.self zeros skipped;
      spent = omega (arith, inv.spent, got.spends, skipped.1);
    }

pub returns-in_err-bit-2 : goal.returns-in_err-bit-2
unfolding Rattle.flac_bits.specs.Layout.zeros_at
returns-in_err-bit-2 g c =
    let p = err_from_is_err_and c.from_residual-in_err-bit-2.result c.from_residual-in_err-bit-2.ensures.1 in
    let goes = c.loop-zeros.invariant.goes in
    let failed = c.in_err-bit-2.ensures.reading in
    rw (p.1, p.2) (record {
      within = tt;
      reading = record {
        spends = tt;
        counts = failed_then c.args.self.now c.loop-zeros.self c.bit-2.new.self (gone goes) failed.counts;
        memory = failed.memory;
        reads = λ known same.
            zeros_cut_last c.args.limit c.loop-zeros.zeros _ c.args.self.now c.loop-zeros.self c.loop-zeros-test.false goes known
            (failed.reads (goes.known known) (same ∙ sym goes.errors));
      };
      needed = zeros_end c.loop-zeros.zeros c.args.limit c.args.self.now c.loop-zeros.self _ c.loop-zeros.invariant.within c.loop-zeros.invariant.zeros c.in_err-bit-2.ensures.needed;
    })

pub returns-in_err-bit-clause-needed : goal.returns-in_err-bit-clause-needed
returns-in_err-bit-clause-needed g c =
    let p = err_from_is_err_and c.from_residual.result c.from_residual.ensures.1 in
    rw (p.1, p.2) (zeros_end c.loop-zeros.zeros c.args.limit c.args.self.now c.loop-zeros.self _ (omega (arith, c.loop-zeros-test.true)) c.loop-zeros.invariant.zeros c.in_err-bit.ensures.needed)

pub returns-then-branch-clause-needed : goal.returns-then-branch-clause-needed
returns-then-branch-clause-needed g c =
    let inv = c.loop-zeros.invariant in
    let got = c.in_ok-bit.ensures in
    zeros_held c.loop-zeros.zeros c.in_ok-bit.field-0 c.args.self.now c.loop-zeros.self c.bit.new.self inv.goes.known inv.zeros got.needed (λ known. got.reading.reads known got.reading.counts.1)

pub returns-then-branch-2-clause-needed : goal.returns-then-branch-2-clause-needed
returns-then-branch-2-clause-needed g c =
    let inv = c.loop-zeros.invariant in
    let got = c.in_ok-bit-2.ensures in
    zeros_held c.loop-zeros.zeros c.in_ok-bit-2.field-0 c.args.self.now c.loop-zeros.self c.bit-2.new.self inv.goes.known inv.zeros got.needed (λ known. got.reading.reads known got.reading.counts.1)

pub returns-clause-needed : goal.returns-clause-needed
returns-clause-needed g c =
    let inv = c.loop-zeros.invariant in
    let got = c.in_ok-bit-2.ensures in
    zeros_held c.loop-zeros.zeros c.in_ok-bit-2.field-0 c.args.self.now c.loop-zeros.self c.bit-2.new.self inv.goes.known inv.zeros got.needed (λ known. got.reading.reads known got.reading.counts.1)
