use Rattle.std.proofs.Common.{◌∙◌, ◌++◌, ap, sym, append_assoc, map, take}
use Rattle.flac_wave.specs.Wave.{all_of}
use Rattle.std.proofs.lemmas.Result.{err_from_is_err_and}
use Rattle.flac_cli.proofs.Waved.{kept_more, rises_later, joined_next, items}
use Rattle.flac_cli.proofs.decode_wave.send_pieces.Goals as goal

pub loop-piece-preserved : goal.loop-piece-preserved
loop-piece-preserved g c =
    let inv = c.loop-piece.invariant in
    let sends = c.in_ok-send_all.ensures.sends in
    let old = g.W.Target.sent c.args.target.now in
    let so_far = all_of (map items (take c.loop-piece.piece-index c.args.pieces.now)) in
    record {
      known = λ known. sends.known (inv.known known);
      sent = λ known.
          sends.sent (inv.known known) ∙ (ap (λ l. l ++ c.as_slice.result.now) (inv.sent known) ∙ (append_assoc old so_far c.as_slice.result.now
          ∙ (ap (λ l. old ++ (so_far ++ l)) c.as_slice.ensures.value ∙ ap (λ l. old ++ l) (sym (joined_next c.args.pieces.now c.loop-piece.piece-index c.piece-item.result c.loop-piece-test.true c.piece-item.is)))));
      names = sends.names ∙ inv.names;
      kept = kept_more _ _ _ inv.kept sends.kept;
    }

pub returns-in_err-send_all-clause-kept : goal.returns-in_err-send_all-clause-kept
returns-in_err-send_all-clause-kept g c = kept_more _ _ _ c.loop-piece.invariant.kept c.in_err-send_all.ensures.sends.kept

pub returns-in_err-send_all-clause-rises : goal.returns-in_err-send_all-clause-rises
returns-in_err-send_all-clause-rises g c =
    let p = err_from_is_err_and c.from_residual.result c.from_residual.ensures.1 in
    rw p.1 (λ k. rises_later _ _ _ c.loop-piece.invariant.kept (c.in_err-send_all.ensures.sends.rises (c.loop-piece.invariant.known k)))

pub returns-clause-kept : goal.returns-clause-kept
returns-clause-kept g c = c.loop-piece.invariant.kept
