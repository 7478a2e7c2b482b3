use Rattle.std.proofs.Common.{◌≡◌, ◌+◌, ◌++◌, length, ap, sym, ◌∙◌, arith}
use Rattle.flac_frame.specs.Viewed.{frame_of}
use Rattle.flac_frame.specs.Interleaved.{row, rows}
use Rattle.flac_frame.proofs.Interleaved.{rows_more, drop_further}
use Rattle.flac_frame.proofs.view.FrameView.interleave.Goals as goal

pub loop-i-preserved : goal.loop-i-preserved
loop-i-preserved c =
    let f = frame_of c.args.self.now in
    let n = c.channels-channels.result in
    let is : n ≡ length f.channels = c.channels-channels.ensures in
    let i = c.loop-i.i in
    let at = c.loop-i.at in
    let z : 0 + i ≡ i = omega arith in
    rw is (record {
      at = omega (arith, c.loop-i.invariant.at);
      rows = c.put_row.ensures.row ∙ ap (λ l. l ++ row f.channels i) c.loop-i.invariant.rows ∙ ap (λ k. rows f.channels i 0 ++ row f.channels k) (sym z) ∙ sym (rows_more f.channels i 0);
      rest = c.put_row.ensures.rest ∙ drop_further c.loop-i.out c.args.out.now at (length f.channels) c.loop-i.invariant.rest;
    })
