use Rattle.std.proofs.Common.{◌+◌, ◌-◌, List, ℕ, ◌++◌, ◌∷◌, [], length, refl}
use Rattle.std.proofs.lemmas.Result.{err_from_is_err_and}
use Rattle.flac_bits.specs.State.{Cursor}
use Rattle.flac_bits.specs.Layout.{run, and_then}
use Rattle.flac_bits.specs.Lists.{after}
use Rattle.flac_bits.proofs.Loops.{goes_on}
use Rattle.flac_bits.specs.LittleEndian.{little_32}
use Rattle.flac_bits.proofs.Counting.{gone, answered_then, failed_then, refused_then}
use Rattle.flac_bits.proofs.Telling.{gone_fault}
use Rattle.flac_meta.specs.Comments.{texts}
use Rattle.flac_meta.specs.Fields.{sized}
use Rattle.flac_meta.proofs.Exits.{had_room, same_room, less_left, spends_turn, spends_none, gone_is}
use Rattle.flac_meta.proofs.Turns.{texts_more, texts_same, texts_last, texts_left}
use Rattle.flac_meta.proofs.comments.read_texts.Goals as goal

pub returns-in_err-text : goal.returns-in_err-text
returns-in_err-text g c =
    let p = err_from_is_err_and c.from_residual.result c.from_residual.ensures.1 in
    let e = c.in_err-text.ensures.reading in
    rw (p.1, p.2) (record {
      reading = record {
        spends = tt;
        counts = failed_then c.args.bits.now c.loop-i.bits c.read_sized_little.new.bits (gone c.loop-i.invariant.2) e.counts;
        reads = (λ room. gone_fault c.args.bits.now c.loop-i.bits c.read_sized_little.new.bits _ c.loop-i.invariant.2
            (texts_more c.args.count c.loop-i.i c.loop-i.left c.loop-i.bits.cursor c.loop-i.list.items c.loop-i-test.true) (e.reads (same_room room)));
      };
    })

pub loop-i-preserved : goal.loop-i-preserved
loop-i-preserved g c =
    let t = c.in_ok-text.ensures.reading in
    let new = c.read_sized_little.new.bits in
    let more : List ℕ → Cursor → _ = λ x d. and_then (run (texts (c.args.count - (c.loop-i.i + 1)) (c.loop-i.left - (4 + length x))) d) (after (c.loop-i.list.items ++ x ∷ [])) in (
      less_left c.loop-i.left c.args.left (4 + c.len.result) c.loop-i.invariant.0,
      spends_turn 0 c.args.bits.now.most c.loop-i.bits.most new.most c.loop-i.invariant.1 t.spends,
      goes_on c.args.bits.now c.loop-i.bits new (run (sized little_32 c.loop-i.left) c.loop-i.bits.cursor) c.in_ok-text.text more _ _ _
          c.loop-i.invariant.2 (texts_more c.args.count c.loop-i.i c.loop-i.left c.loop-i.bits.cursor c.loop-i.list.items c.loop-i-test.true)
          (texts_same (c.args.count - (c.loop-i.i + 1)) c.loop-i.left c.len.result new.cursor c.loop-i.list.items c.push.new.self.items c.in_ok-text.text c.len.ensures c.in_ok-push.ensures.items)
          t.counts (t.reads had_room),
    )

pub returns : goal.returns
returns g c = record {
  reading = record {
    spends = spends_none c.args.bits.now.most c.loop-i.bits.most c.loop-i.invariant.1;
    counts = gone c.loop-i.invariant.2;
    reads = (λ room. gone_is c.args.bits.now c.loop-i.bits c.loop-i.invariant.2
        (texts_last c.args.count c.loop-i.i c.loop-i.left c.loop-i.bits.cursor c.loop-i.list.items c.from_vec.result c.loop-i-test.false c.if-left-ne0.false c.from_vec.ensures));
  };
}

pub returns-in_err-push : goal.returns-in_err-push
returns-in_err-push g c =
    let p = err_from_is_err_and c.from_residual-in_err-push.result c.from_residual-in_err-push.ensures.1 in
    rw (p.1, p.2) (record {
      reading = record {
        spends = tt;
        counts = refused_then c.args.bits.now c.read_sized_little.new.bits (answered_then c.args.bits.now c.loop-i.bits c.read_sized_little.new.bits (gone c.loop-i.invariant.2) c.in_ok-text.ensures.reading.counts) refl;
        reads = (λ room. absurd (room refl));
      };
    })

pub returns-then-left-ne0 : goal.returns-then-left-ne0
returns-then-left-ne0 g c = record {
  reading = record {
    spends = tt;
    counts = refused_then c.args.bits.now c.loop-i.bits (gone c.loop-i.invariant.2) refl;
    reads = (λ room. gone_is c.args.bits.now c.loop-i.bits c.loop-i.invariant.2
        (texts_left c.args.count c.loop-i.i c.loop-i.left c.loop-i.bits.cursor c.loop-i.list.items c.loop-i-test.false c.if-left-ne0.true));
  };
}
