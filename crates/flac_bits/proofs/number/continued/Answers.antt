use Rattle.std.proofs.Common.{◌≡◌, ◌+◌, ◌-◌, rules, refl, sym, ap, ◌∙◌, arith}
use Rattle.std.proofs.lemmas.Result.{err_from_is_err_and}
use Rattle.flac_bits.proofs.Numbers.{six_more, group_more}
use Rattle.flac_bits.proofs.CodedTurns.{byte_turn, byte_cut, byte_bad}
use Rattle.flac_bits.proofs.Counting.{gone, answered_then, failed_then, refused_then}
use Rattle.flac_bits.specs.declared.why.Why.TheVariants.{BadNumber, Read}
use Rattle.flac_bits.proofs.Needing.{continued_none, continued_drawn, continued_ends}
use Rattle.flac_bits.specs.Layout.{run}
use Rattle.flac_bits.specs.Number.{continued}
use Rattle.flac_bits.proofs.number.continued.Goals as goal

number_no_read : BadNumber ≡ Read → ⊥
number_no_read q = cc

pub overflow_mul-value : goal.overflow_mul-value
overflow_mul-value g c = omega (arith, six_more c.loop-i.i c.args.count c.loop-i.value c.loop-i-test.true c.requires.few c.loop-i.invariant.0)

pub overflow_add-value : goal.overflow_add-value
overflow_add-value g c = omega (arith, six_more c.loop-i.i c.args.count c.loop-i.value c.loop-i-test.true c.requires.few c.loop-i.invariant.0)

pub returns-clause-reading : goal.returns-clause-reading
unfolding Rattle.flac_bits.specs.Number.continued
returns-clause-reading g c = record {
  spends = search rules;
  counts = gone c.loop-i.invariant.3;
  memory = search rules;
  reads = search rules;
}

pub loop-i-preserved : goal.loop-i-preserved
loop-i-preserved g c =
    let inv = c.loop-i.invariant in
    let got = c.in_ok-byte.ensures.reading in
    let i = c.loop-i.i in
    let value = c.loop-i.value in
    let byte = c.in_ok-byte.byte in (
      group_more 32 i value byte inv.0,
      group_more (c.args.high + 1) i value byte inv.1,
      omega (arith, inv.2, got.spends),
      byte_turn c.args.count i value byte c.args.high c.args.bits.now c.loop-i.bits c.take.new.self
          c.loop-i-test.true c.if-byte-ne2.false inv.3 got.counts got.reads,
      continued_drawn c.args.count i value byte c.args.high c.args.bits.now c.loop-i.bits c.take.new.self
          c.loop-i-test.true c.if-byte-ne2.false inv.3.known inv.4 (λ known. got.reads known got.counts.1) c.in_ok-byte.ensures.needed,
    )

pub returns-in_err-byte : goal.returns-in_err-byte
returns-in_err-byte g c =
    let p = err_from_is_err_and c.from_residual.result c.from_residual.ensures.1 in
    let goes = c.loop-i.invariant.3 in
    let failed = c.in_err-byte.ensures.reading in
    rw (p.1, p.2) (record {
      reading = record {
        spends = tt;
        counts = failed_then c.args.bits.now c.loop-i.bits c.take.new.self (gone goes) failed.counts;
        memory = failed.memory;
        reads = λ known same.
            byte_cut c.args.count c.loop-i.i c.loop-i.value c.args.high _ c.args.bits.now c.loop-i.bits c.loop-i-test.true goes known
            (failed.reads (goes.known known) (same ∙ sym goes.errors));
      };
      needed = continued_ends c.args.count c.loop-i.i c.loop-i.value c.args.high c.args.bits.now c.loop-i.bits _ c.loop-i-test.true goes.known c.loop-i.invariant.4 c.in_err-byte.ensures.needed;
      room = tt;
    })

pub returns-then-byte-ne2 : goal.returns-then-byte-ne2
returns-then-byte-ne2 g c =
    let goes = c.loop-i.invariant.3 in
    let got = c.in_ok-byte.ensures.reading in
    record {
      reading = record {
        spends = tt;
        counts = refused_then c.args.bits.now c.take.new.self
            (answered_then c.args.bits.now c.loop-i.bits c.take.new.self (gone goes) got.counts) refl;
        memory = search rules;
        reads = λ known same.
            byte_bad c.args.count c.loop-i.i c.loop-i.value c.in_ok-byte.byte c.args.high c.args.bits.now c.loop-i.bits c.take.new.self
            c.loop-i-test.true c.if-byte-ne2.true goes known (got.reads (goes.known known) got.counts.1);
      };
      needed = λ e. absurd (number_no_read e);
      room = tt;
    }

pub returns-clause-needed : goal.returns-clause-needed
returns-clause-needed g c = c.loop-i.invariant.4.held

pub loop-i-init : goal.loop-i-init
loop-i-init g c =
    let n = c.args.count in
    let high = c.args.high in
    let e : n - 0 ≡ n = omega arith in (
      omega (arith, c.requires.small),
      omega arith,
      omega arith,
      record {
        known = λ h. h;
        errors = refl;
        raised = refl;
        after = λ _. refl;
        names = refl;
        reads = λ _. ap (λ k. run (continued k high) c.args.bits.now.cursor) e;
      },
      continued_none n high c.args.bits.now,
    )
