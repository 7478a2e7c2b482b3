use Rattle.std.proofs.Common.{ℕ, ◌+◌, ◌-◌, ◌++◌, ◌∷◌, [], refl}
use Rattle.std.proofs.lemmas.Result.{err_from_is_err_and}
use Rattle.flac_bits.specs.State.{Cursor}
use Rattle.flac_bits.specs.Layout.{bits, run, and_then}
use Rattle.flac_bits.specs.Lists.{list_of, after}
use Rattle.flac_bits.proofs.Lists.{list_more}
use Rattle.flac_bits.proofs.Loops.{goes_on}
use Rattle.flac_bits.proofs.Counting.{gone, answered_then, failed_then, refused_then}
use Rattle.flac_bits.proofs.Telling.{gone_fault}
use Rattle.flac_meta.proofs.Exits.{spends_turn, spends_none, gone_is}
use Rattle.flac_meta.proofs.Turns.{list_same, list_last, list_counted, one_more}
use Rattle.flac_meta.proofs.fields.read_raw.Goals as goal

pub returns-in_err-take-clause-reading : goal.returns-in_err-take-clause-reading
returns-in_err-take-clause-reading g c =
    let p = err_from_is_err_and c.from_residual.result c.from_residual.ensures.1 in
    rw (p.1, p.2) (record {
      spends = tt;
      counts = failed_then c.args.bits.now c.loop-i.bits c.take.new.self (gone c.loop-i.invariant.2) c.in_err-take.ensures.reading.counts;
      reads = (λ room. gone_fault c.args.bits.now c.loop-i.bits c.take.new.self _ c.loop-i.invariant.2
          (list_more c.args.size c.loop-i.i (bits 8) c.loop-i.bits.cursor c.loop-i.bytes.items c.loop-i-test.true) c.in_err-take.ensures.reading.reads);
    })

pub returns-in_err-push-clause-reading : goal.returns-in_err-push-clause-reading
returns-in_err-push-clause-reading g c =
    let p = err_from_is_err_and c.from_residual-in_err-push.result c.from_residual-in_err-push.ensures.1 in
    rw (p.1, p.2) (record {
      spends = tt;
      counts = refused_then c.args.bits.now c.take.new.self (answered_then c.args.bits.now c.loop-i.bits c.take.new.self (gone c.loop-i.invariant.2) c.in_ok-take.ensures.reading.counts) refl;
      reads = (λ room. absurd (room refl));
    })

pub returns-clause-reading : goal.returns-clause-reading
returns-clause-reading g c = record {
  spends = spends_none c.args.bits.now.most c.loop-i.bits.most c.loop-i.invariant.1;
  counts = gone c.loop-i.invariant.2;
  reads = (λ room. gone_is c.args.bits.now c.loop-i.bits c.loop-i.invariant.2
      (list_last c.args.size c.loop-i.i (bits 8) c.loop-i.bits.cursor c.loop-i.bytes.items c.from_vec.result c.loop-i-test.false c.from_vec.ensures));
}

pub loop-i-preserved : goal.loop-i-preserved
loop-i-preserved g c =
    let t = c.in_ok-take.ensures.reading in
    let new = c.take.new.self in
    let pushed = c.in_ok-push.ensures.items in
    let more : ℕ → Cursor → _ = λ x d. and_then (run (list_of (c.args.size - (c.loop-i.i + 1)) (bits 8)) d) (after (c.loop-i.bytes.items ++ x ∷ [])) in (
      one_more c.loop-i.i c.loop-i.bytes.items c.push.new.self.items c.in_ok-take.field-0 c.loop-i.invariant.0 pushed,
      spends_turn 8 c.args.bits.now.most c.loop-i.bits.most new.most c.loop-i.invariant.1 t.spends,
      goes_on c.args.bits.now c.loop-i.bits new (run (bits 8) c.loop-i.bits.cursor) c.in_ok-take.field-0 more _ _ _
          c.loop-i.invariant.2 (list_more c.args.size c.loop-i.i (bits 8) c.loop-i.bits.cursor c.loop-i.bytes.items c.loop-i-test.true)
          (list_same (c.args.size - (c.loop-i.i + 1)) (bits 8) new.cursor c.loop-i.bytes.items c.push.new.self.items c.in_ok-take.field-0 pushed)
          t.counts t.reads,
    )

pub returns-clause-size : goal.returns-clause-size
returns-clause-size g c = list_counted c.args.size c.loop-i.i c.loop-i.bytes.items c.from_vec.result c.from_vec.ensures c.loop-i.invariant.0 c.loop-i-test.false c.loop-i.auto.i-end
