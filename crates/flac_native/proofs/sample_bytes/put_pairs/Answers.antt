use Rattle.std.proofs.Common.{◌+◌, ◌++◌, ap, sym, ◌∙◌, arith}
use Rattle.flac_native.specs.Message.{row_bytes}
use Rattle.flac_native.proofs.Messages.{rows_more}
use Rattle.flac_native.proofs.Threes.{fours_more}
use Rattle.flac_native.proofs.sample_bytes.put_pairs.Goals as goal

pub loop-i-preserved : goal.loop-i-preserved
loop-i-preserved g c = fours_more (g.C.Channels.lists c.args.samples.now) c.loop-i.i c.args.start c.loop-i.out c.put_four.new.out c.loop-i.invariant c.put_four.ensures

pub loop-i-2-preserved : goal.loop-i-2-preserved
loop-i-2-preserved g c =
    let inv = c.loop-i-2.invariant in
    let channels = g.C.Channels.lists c.args.samples.now in
    let i = c.loop-i-2.i in
    record {
      end = omega (arith, inv.end, c.put_row-at.ensures.end);
      bytes = c.put_row-at.ensures.bytes ∙ ap (λ l. l ++ row_bytes 3 channels (c.args.start + i)) inv.bytes ∙ sym (rows_more 3 channels i c.args.start);
    }
