use Rattle.std.proofs.Common.{◌+◌, ◌-◌, ◌++◌, ◌∷◌, [], refl}
use Rattle.std.proofs.lemmas.Result.{err_from_is_err_and}
use Rattle.flac_bits.specs.State.{Cursor}
use Rattle.flac_bits.specs.Layout.{run, and_then}
use Rattle.flac_bits.specs.Lists.{list_of, after}
use Rattle.flac_bits.proofs.Lists.{list_more}
use Rattle.flac_bits.proofs.Loops.{goes_on}
use Rattle.flac_bits.proofs.Counting.{gone, answered_then, failed_then, refused_then}
use Rattle.flac_bits.proofs.Telling.{gone_fault}
use Rattle.flac_meta.specs.CueSheet.{cue_index}
use Rattle.flac_meta.specs.declared.cue_sheet.CueIndex.{CueIndex}
use Rattle.flac_meta.proofs.Exits.{spends_turn, spends_none, gone_is}
use Rattle.flac_meta.proofs.Turns.{list_same, list_last, list_counted, one_more}
use Rattle.flac_meta.proofs.cue_sheet.read_indices.Goals as goal

pub returns-in_err-index-clause-reading : goal.returns-in_err-index-clause-reading
returns-in_err-index-clause-reading g c =
    let p = err_from_is_err_and c.from_residual.result c.from_residual.ensures.1 in
    let e = c.in_err-index.ensures.reading in
    rw (p.1, p.2) (record {
      spends = tt;
      counts = failed_then c.args.bits.now c.loop-i.bits c.read_index.new.bits (gone c.loop-i.invariant.2) e.counts;
      reads = (λ room. gone_fault c.args.bits.now c.loop-i.bits c.read_index.new.bits _ c.loop-i.invariant.2
          (list_more c.args.count c.loop-i.i cue_index c.loop-i.bits.cursor c.loop-i.items.items c.loop-i-test.true) e.reads);
    })

pub loop-i-preserved : goal.loop-i-preserved
loop-i-preserved g c =
    let t = c.in_ok-index.ensures.reading in
    let new = c.read_index.new.bits in
    let pushed = c.in_ok-push.ensures.items in
    let more : CueIndex → Cursor → _ = λ x d. and_then (run (list_of (c.args.count - (c.loop-i.i + 1)) cue_index) d) (after (c.loop-i.items.items ++ x ∷ [])) in (
      one_more c.loop-i.i c.loop-i.items.items c.push.new.self.items c.in_ok-index.index c.loop-i.invariant.0 pushed,
      spends_turn 0 c.args.bits.now.most c.loop-i.bits.most new.most c.loop-i.invariant.1 t.spends,
      goes_on c.args.bits.now c.loop-i.bits new (run cue_index c.loop-i.bits.cursor) c.in_ok-index.index more _ _ _
          c.loop-i.invariant.2 (list_more c.args.count c.loop-i.i cue_index c.loop-i.bits.cursor c.loop-i.items.items c.loop-i-test.true)
          (list_same (c.args.count - (c.loop-i.i + 1)) cue_index new.cursor c.loop-i.items.items c.push.new.self.items c.in_ok-index.index pushed)
          t.counts t.reads,
    )

pub returns-clause-reading : goal.returns-clause-reading
returns-clause-reading g c = record {
  spends = spends_none c.args.bits.now.most c.loop-i.bits.most c.loop-i.invariant.1;
  counts = gone c.loop-i.invariant.2;
  reads = (λ room. gone_is c.args.bits.now c.loop-i.bits c.loop-i.invariant.2
      (list_last c.args.count c.loop-i.i cue_index c.loop-i.bits.cursor c.loop-i.items.items c.from_vec.result c.loop-i-test.false c.from_vec.ensures));
}

pub returns-in_err-push-clause-reading : goal.returns-in_err-push-clause-reading
returns-in_err-push-clause-reading g c =
    let p = err_from_is_err_and c.from_residual-in_err-push.result c.from_residual-in_err-push.ensures.1 in
    rw (p.1, p.2) (record {
      spends = tt;
      counts = refused_then c.args.bits.now c.read_index.new.bits (answered_then c.args.bits.now c.loop-i.bits c.read_index.new.bits (gone c.loop-i.invariant.2) c.in_ok-index.ensures.reading.counts) refl;
      reads = (λ room. absurd (room refl));
    })

pub returns-clause-count : goal.returns-clause-count
returns-clause-count g c = list_counted c.args.count c.loop-i.i c.loop-i.items.items c.from_vec.result c.from_vec.ensures c.loop-i.invariant.0 c.loop-i-test.false c.loop-i.auto.i-end
