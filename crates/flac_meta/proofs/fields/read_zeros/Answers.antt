use Rattle.flac_meta.proofs.Zeros.{zeros_end}
use Rattle.flac_meta.proofs.Zeros.{zeros_first}
use Rattle.std.proofs.Common.{◌+◌, ◌-◌, ◌*◌, ◌/◌, ◌%◌, ◌&&◌, nat_eq, ℕ, refl, ◌∙◌, arith}
use Rattle.flac_bits.specs.State.{Cursor}
use Rattle.flac_bits.specs.Layout.{number_at}
use Rattle.flac_bits.proofs.Loops.{goes_on}
use Rattle.std.proofs.lemmas.Result.{err_from_is_err_and}
use Rattle.flac_bits.proofs.Counting.{gone, failed_then}
use Rattle.flac_bits.proofs.Telling.{gone_fault, told_fault}
use Rattle.flac_meta.proofs.Exits.{spends_first, spends_none, goes_first, gone_is}
use Rattle.flac_meta.proofs.Zeros.{zeros_then, zeros_more}
use Rattle.flac_meta.proofs.fields.read_zeros.Goals as goal

pub loop-i-preserved : goal.loop-i-preserved
loop-i-preserved g c =
    let more : ℕ → Cursor → _ = λ w d. zeros_then (64 * (c.args.count / 64 - (c.loop-i.i + 1))) (c.loop-i.clear && nat_eq w 0) d in (
      omega (arith, c.in_ok-word.ensures.reading.spends),
      goes_on c.args.bits.now c.loop-i.bits c.take-in-loop-i.new.self (number_at 64 c.loop-i.bits.cursor) c.in_ok-word.word more _ _ _
          c.loop-i.invariant.1 (zeros_more (c.args.count / 64) c.loop-i.i c.loop-i.clear c.loop-i.bits.cursor c.loop-i-test.true) (grind arith)
          c.in_ok-word.ensures.reading.counts c.in_ok-word.ensures.reading.reads,
    )

pub returns-in_err-word : goal.returns-in_err-word
returns-in_err-word g c =
    let p = err_from_is_err_and c.from_residual-in_err-word.result c.from_residual-in_err-word.ensures.1 in
    rw (p.1, p.2) (record {
      reading = record {
        spends = tt;
        counts = failed_then c.args.bits.now c.loop-i.bits c.take-in-loop-i.new.self (gone c.loop-i.invariant.1) c.in_err-word.ensures.reading.counts;
        reads = (gone_fault c.args.bits.now c.loop-i.bits c.take-in-loop-i.new.self _ c.loop-i.invariant.1
            (zeros_more (c.args.count / 64) c.loop-i.i c.loop-i.clear c.loop-i.bits.cursor c.loop-i-test.true) c.in_err-word.ensures.reading.reads);
      };
    })

pub returns : goal.returns
returns g c = record {
  reading = record {
    spends = spends_none c.args.bits.now.most c.loop-i.bits.most c.loop-i.invariant.0;
    counts = gone c.loop-i.invariant.1;
    reads = gone_is c.args.bits.now c.loop-i.bits c.loop-i.invariant.1 (zeros_end (c.args.count / 64) c.loop-i.i c.loop-i.clear c.loop-i.bits.cursor c.loop-i-test.false);
  };
}

pub loop-i-init : goal.loop-i-init
loop-i-init g c =
    let t = c.in_ok-clear.ensures.reading in
    let more : ℕ → Cursor → _ = λ w d. zeros_then (64 * (c.args.count / 64 - 0)) (nat_eq w 0) d in (
      spends_first (c.args.count % 64) c.args.bits.now.most c.take.new.self.most t.spends,
      goes_first c.args.bits.now c.take.new.self more t.counts (zeros_first c.args.count c.args.bits.now.cursor) t.reads refl,
    )

pub returns-in_err-clear : goal.returns-in_err-clear
returns-in_err-clear g c =
    let p = err_from_is_err_and c.from_residual.result c.from_residual.ensures.1 in
    let e = c.in_err-clear.ensures.reading in
    let more : ℕ → Cursor → _ = λ w d. zeros_then (64 * (c.args.count / 64 - 0)) (nat_eq w 0) d in
    rw (p.1, p.2) (record {
      reading = record {
        spends = tt;
        counts = e.counts;
        reads = (λ known same. zeros_first c.args.count c.args.bits.now.cursor ∙ told_fault c.args.bits.now c.take.new.self more e.reads known same);
      };
    })
