use Rattle.std.proofs.Common.{rules, ◌+◌, ◌-◌, ◌*◌, refl, arith}
use Rattle.std.specs.Prelude.{ℕ}
use Rattle.flac_bits.specs.State.{Cursor}
use Rattle.flac_bits.specs.Layout.{run, number_at}
use Rattle.flac_bits.proofs.Loops.{goes_on}
use Rattle.flac_meta.specs.Padding.{skipped}
use Rattle.flac_meta.proofs.Skips.{skip_more, skip_last}
use Rattle.std.proofs.lemmas.Result.{err_from_is_err_and}
use Rattle.flac_bits.proofs.Counting.{gone, answered_then, failed_then}
use Rattle.flac_bits.proofs.Telling.{gone_fault, gone_then}
use Rattle.flac_meta.proofs.fields.skip_bytes.Goals as goal

pub loop-i-preserved : goal.loop-i-preserved
loop-i-preserved g c =
    let more : ℕ → Cursor → _ = λ v d. run (skipped (8 * c.args.length - 64 * (c.loop-i.i + 1))) d in (
      omega (arith, c.in_ok-_word.ensures.reading.spends),
      goes_on c.args.bits.now c.loop-i.bits c.take.new.self (number_at 64 c.loop-i.bits.cursor) c.in_ok-_word._word more _ _ _
          c.loop-i.invariant.1 (skip_more c.args.length c.loop-i.i c.loop-i.bits.cursor c.loop-i-test.true) refl
          c.in_ok-_word.ensures.reading.counts c.in_ok-_word.ensures.reading.reads,
    )

pub returns-in_err-_word : goal.returns-in_err-_word
returns-in_err-_word g c =
    let p = err_from_is_err_and c.from_residual.result c.from_residual.ensures.1 in
    rw (p.1, p.2) (record {
      reading = record {
        spends = tt;
        counts = failed_then c.args.bits.now c.loop-i.bits c.take.new.self (gone c.loop-i.invariant.1) c.in_err-_word.ensures.reading.counts;
        reads = gone_fault c.args.bits.now c.loop-i.bits c.take.new.self _ c.loop-i.invariant.1 (skip_more c.args.length c.loop-i.i c.loop-i.bits.cursor c.loop-i-test.true) c.in_err-_word.ensures.reading.reads;
      };
    })

pub returns-in_err-_rest : goal.returns-in_err-_rest
returns-in_err-_rest g c =
    let p = err_from_is_err_and c.from_residual-in_err-_rest.result c.from_residual-in_err-_rest.ensures.1 in
    rw (p.1, p.2) (record {
      reading = record {
        spends = tt;
        counts = failed_then c.args.bits.now c.loop-i.bits c.take-2.new.self (gone c.loop-i.invariant.1) c.in_err-_rest.ensures.reading.counts;
        reads = gone_fault c.args.bits.now c.loop-i.bits c.take-2.new.self _ c.loop-i.invariant.1 (skip_last c.args.length c.loop-i.i c.loop-i.bits.cursor c.loop-i-test.false (omega arith)) c.in_err-_rest.ensures.reading.reads;
      };
    })

pub returns : goal.returns
returns g c = record {
  reading = record {
    spends = search rules;
    counts = answered_then c.args.bits.now c.loop-i.bits c.take-2.new.self (gone c.loop-i.invariant.1) c.in_ok-_rest.ensures.reading.counts;
    reads = gone_then c.args.bits.now c.loop-i.bits c.take-2.new.self _ c.loop-i.invariant.1 (skip_last c.args.length c.loop-i.i c.loop-i.bits.cursor c.loop-i-test.false (omega arith)) c.in_ok-_rest.ensures.reading.reads;
  };
}
