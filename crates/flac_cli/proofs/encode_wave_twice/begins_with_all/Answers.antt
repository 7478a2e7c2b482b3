use Rattle.std.proofs.Common.{◌≡◌, ◌∙◌, ◌++◌, append_assoc, refl, ap, sym, subst, take}
use Rattle.flac_wave.specs.Wave.{all_of}
use Rattle.flac_cli.specs.Waves.{contents}
use Rattle.flac_cli.proofs.Pieces.{piece_other}
use Rattle.flac_cli.proofs.Waved.{joined_next, items}
use Rattle.flac_cli.proofs.encode_wave_twice.begins_with_all.Goals as goal

pub returns-then-not-branch-clause-other : goal.returns-then-not-branch-clause-other
returns-then-not-branch-clause-other g c = λ not known.
    let inv = c.loop-piece.invariant in
    let e = c.in_ok-begins_with.ensures in
    let p = c.piece-item.result in
    piece_other c.args.pieces.now c.loop-piece.piece-index p (g.R.Source.coming c.args.source.now) (g.R.Source.coming c.loop-piece.source) c.loop-piece-test.true c.piece-item.is (inv.read known)
    (λ rest is. e.other c.if-not-branch.true (inv.known known) rest (is ∙ ap (λ l. l ++ rest) (sym c.as_slice.ensures.value)))

pub loop-piece-preserved : goal.loop-piece-preserved
loop-piece-preserved g c =
    let inv = c.loop-piece.invariant in
    let e = c.in_ok-begins_with.ensures in
    let p = c.piece-item.result in
    let later = g.R.Source.coming c.begins_with.new.source in
    let so_far = all_of (contents (take c.loop-piece.piece-index c.args.pieces.now)) in
    record {
      known = λ known. e.known (inv.known known);
      read = λ known. inv.read known ∙ (ap (λ l. so_far ++ l) (e.same c.if-not-branch.false (inv.known known) ∙ ap (λ l. l ++ later) c.as_slice.ensures.value)
          ∙ (sym (append_assoc so_far (items p) later) ∙ ap (λ l. l ++ later) (sym (joined_next c.args.pieces.now c.loop-piece.piece-index p c.loop-piece-test.true c.piece-item.is))));
      raised = e.counted ∙ inv.raised;
      names = e.names ∙ inv.names;
    }
