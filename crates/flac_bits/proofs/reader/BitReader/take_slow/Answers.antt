use Rattle.std.proofs.Common.{rules, sym, ◌∙◌, arith}
use Rattle.std.proofs.lemmas.Result.{err_from_is_err_and}
use Rattle.flac_bits.proofs.Counting.{gone, failed_then}
use Rattle.flac_bits.proofs.Turns.{number_start, number_turn, number_cut, number_below, number_room, byte_small}
use Rattle.flac_bits.proofs.reader.BitReader.take_slow.Goals as goal

pub loop-i-init : goal.loop-i-init
loop-i-init g c = (omega arith, omega arith, omega arith, number_start c.args.n c.args.self.now)

pub overflow_mul-value : goal.overflow_mul-value
overflow_mul-value g c =
    omega (arith, number_room c.args.n c.loop-i.i c.loop-i.value c.loop-i-test.true c.requires c.loop-i.invariant.2)

pub overflow_add-value : goal.overflow_add-value
overflow_add-value g c =
    let room = number_room c.args.n c.loop-i.i c.loop-i.value c.loop-i-test.true c.requires c.loop-i.invariant.2 in
    omega (arith, room, byte_small c.from.result c.in_ok-bit.bit c.from.ensures)

pub loop-i-preserved : goal.loop-i-preserved
loop-i-preserved g c =
    let inv = c.loop-i.invariant in
    let got = c.in_ok-bit.ensures.reading in
    let bit = c.in_ok-bit.bit in (
      omega (arith, inv.0, c.in_ok-bit.ensures.needed),
      omega (arith, inv.1, got.spends),
      number_below c.loop-i.i c.loop-i.value c.from.result bit inv.2 c.from.ensures,
      number_turn c.args.n c.loop-i.i c.loop-i.value c.from.result bit c.args.self.now c.loop-i.self c.bit.new.self
          c.loop-i-test.true c.from.ensures inv.3 got.counts got.reads,
    )

pub returns-in_err-bit-clause-reading : goal.returns-in_err-bit-clause-reading
unfolding Rattle.flac_bits.specs.Layout.number_at
returns-in_err-bit-clause-reading g c =
    let p = err_from_is_err_and c.from_residual.result c.from_residual.ensures.1 in
    let inv = c.loop-i.invariant in
    let failed = c.in_err-bit.ensures.reading in
    rw (p.1, p.2) (record {
      spends = tt;
      counts = failed_then c.args.self.now c.loop-i.self c.bit.new.self (gone inv.3) failed.counts;
      memory = failed.memory;
      reads = λ known same.
          number_cut c.args.n c.loop-i.i c.loop-i.value _ c.args.self.now c.loop-i.self c.loop-i-test.true inv.3 known
          (failed.reads (inv.3.known known) (same ∙ sym inv.3.errors));
    })

pub returns-clause-reading : goal.returns-clause-reading
unfolding Rattle.flac_bits.specs.Layout.number_at Rattle.flac_bits.specs.Layout.number_from
returns-clause-reading g c = record {
  spends = search rules;
  counts = gone c.loop-i.invariant.3;
  memory = search rules;
  reads = search rules;
}

pub returns-in_err-bit-clause-needed : goal.returns-in_err-bit-clause-needed
returns-in_err-bit-clause-needed g c =
    let p = err_from_is_err_and c.from_residual.result c.from_residual.ensures.1 in
    rw (p.1, p.2) (λ read. omega (arith, c.loop-i.invariant.0, c.loop-i-test.true, c.in_err-bit.ensures.needed read))

pub returns-clause-needed : goal.returns-clause-needed
returns-clause-needed g c = omega (arith, c.loop-i.invariant.0, c.loop-i-test.false, c.loop-i.auto.i-end)
