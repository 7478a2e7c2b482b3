use Rattle.std.proofs.Common.{rules, ◌≡◌, ◌<◌, ◌+◌, ◌++◌, [], ◌∷◌, length, take, refl, ap, sym, ◌∙◌, arith, w32, to_z, of_z}
use Rattle.std.proofs.lemmas.Int.{to_z-of_z}
use Rattle.flac_frame.specs.Viewed.{frame_of}
use Rattle.flac_frame.specs.Interleaved.{row}
use Rattle.flac_frame.proofs.Interleaved.{row_more, row_put, rest_put}
use Rattle.flac_frame.proofs.view.FrameView.put_row.Goals as goal

pub loop-c-preserved : goal.loop-c-preserved
loop-c-preserved c =
    let f = frame_of c.args.self.now in
    let k = c.loop-c.c in
    let at = c.args.at in
    let z = c.sample.result in
    let lt : k < length f.channels = omega (arith, c.loop-c-test.true, c.channels-c-end.ensures) in
    let inside : at + k < length c.loop-c.out = omega (arith, lt, c.requires.room, c.loop-c.auto.out) in
    let same : to_z w32 (of_z w32 z) ≡ z = to_z-of_z w32 z (search rules) in
    rw same (record {
      row = row_put c.loop-c.out c.args.out.now (row (take k f.channels) c.args.i) z at k (at + (k + 1)) inside refl c.loop-c.invariant.row
          ∙ ap (λ l. take at c.args.out.now ++ l) (ap (λ y. row (take k f.channels) c.args.i ++ y ∷ []) c.sample.ensures ∙ sym (row_more f.channels c.args.i k lt));
      rest = rest_put c.loop-c.out c.args.out.now z at k (at + (k + 1)) refl c.loop-c.invariant.rest;
    })
