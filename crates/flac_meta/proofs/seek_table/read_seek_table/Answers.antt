use Rattle.std.proofs.Common.{◌+◌, ◌-◌, ◌++◌, ◌∷◌, [], refl, Some}
use Rattle.std.proofs.lemmas.Result.{err_from_is_err_and}
use Rattle.flac_bits.specs.State.{Cursor}
use Rattle.flac_bits.specs.Layout.{run, and_then}
use Rattle.flac_bits.specs.Lists.{after}
use Rattle.flac_bits.proofs.Loops.{goes_on}
use Rattle.flac_bits.proofs.Counting.{gone, answered_then, failed_then, refused_then}
use Rattle.flac_bits.proofs.Telling.{gone_fault}
use Rattle.flac_meta.specs.SeekTable.{seek_point, seek_points}
use Rattle.flac_meta.specs.declared.seek_table.SeekPoint.{SeekPoint}
use Rattle.flac_meta.proofs.Exits.{spends_turn, spends_none, gone_is}
use Rattle.flac_meta.proofs.Turns.{points_more, points_same, points_last}
use Rattle.flac_meta.proofs.seek_table.read_seek_table.Goals as goal

pub returns-in_err-point : goal.returns-in_err-point
returns-in_err-point g c =
    let p = err_from_is_err_and c.from_residual.result c.from_residual.ensures.1 in
    let e = c.in_err-point.ensures.reading in
    rw (p.1, p.2) (record {
      reading = record {
        spends = tt;
        counts = failed_then c.args.bits.now c.loop-i.bits c.read_point.new.bits (gone c.loop-i.invariant.1) e.counts;
        reads = (λ room. gone_fault c.args.bits.now c.loop-i.bits c.read_point.new.bits _ c.loop-i.invariant.1
            (points_more c.args.count c.loop-i.i c.loop-i.before c.loop-i.bits.cursor c.loop-i.points.items c.loop-i-test.true) e.reads);
      };
    })

pub loop-i-preserved : goal.loop-i-preserved
loop-i-preserved g c =
    let t = c.in_ok-point.ensures.reading in
    let new = c.read_point.new.bits in
    let more : SeekPoint → Cursor → _ = λ x d. and_then (run (seek_points (c.args.count - (c.loop-i.i + 1)) (Some x.sample)) d) (after (c.loop-i.points.items ++ x ∷ [])) in (
      spends_turn 0 c.args.bits.now.most c.loop-i.bits.most new.most c.loop-i.invariant.0 t.spends,
      goes_on c.args.bits.now c.loop-i.bits new (run (seek_point c.loop-i.before) c.loop-i.bits.cursor) c.in_ok-point.point more _ _ _
          c.loop-i.invariant.1 (points_more c.args.count c.loop-i.i c.loop-i.before c.loop-i.bits.cursor c.loop-i.points.items c.loop-i-test.true)
          (points_same (c.args.count - (c.loop-i.i + 1)) c.in_ok-point.point.sample new.cursor c.loop-i.points.items c.push.new.self.items c.in_ok-point.point c.in_ok-push.ensures.items)
          t.counts t.reads,
    )

pub returns : goal.returns
returns g c = record {
  reading = record {
    spends = spends_none c.args.bits.now.most c.loop-i.bits.most c.loop-i.invariant.0;
    counts = gone c.loop-i.invariant.1;
    reads = (λ room. gone_is c.args.bits.now c.loop-i.bits c.loop-i.invariant.1
        (points_last c.args.count c.loop-i.i c.loop-i.before c.loop-i.bits.cursor c.loop-i.points.items c.from_vec.result c.loop-i-test.false c.from_vec.ensures));
  };
}

pub returns-in_err-push : goal.returns-in_err-push
returns-in_err-push g c =
    let p = err_from_is_err_and c.from_residual-in_err-push.result c.from_residual-in_err-push.ensures.1 in
    rw (p.1, p.2) (record {
      reading = record {
        spends = tt;
        counts = refused_then c.args.bits.now c.read_point.new.bits (answered_then c.args.bits.now c.loop-i.bits c.read_point.new.bits (gone c.loop-i.invariant.1) c.in_ok-point.ensures.reading.counts) refl;
        reads = (λ room. absurd (room refl));
      };
    })
