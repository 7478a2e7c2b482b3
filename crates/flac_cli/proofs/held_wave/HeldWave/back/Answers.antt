use Rattle.std.proofs.Common.{◌∙◌, ◌-◌, ap, map, sym, drop, length, arith}
use Rattle.std.proofs.lemmas.List.{take_all, length-drop}
use Rattle.flac_cli.specs.inner.Waving.{is_kept, back_pieces}
use Rattle.flac_cli.proofs.Waved.{map_dropped, items, none_kept, some_kept}
use Rattle.flac_cli.proofs.held_wave.HeldWave.back.Goals as goal

pub returns-then-is_kept : goal.returns-then-is_kept
returns-then-is_kept c =
    let xs = c.deref.result.now in
    let n = c.self.inside.head in
    ap (map items) (take_all (length xs - n) (drop n xs) (omega (arith, length-drop n xs))) ∙ (ap (λ l. map items (drop n l)) c.deref.ensures.value
    ∙ (map_dropped items n c.self.inside.pieces.items
    ∙ (some_kept _ _ _ (ap is_kept c.self.view_is ∙ (sym c.is_kept.ensures ∙ c.if-is_kept.true)) ∙ ap back_pieces c.self.view_is)))

pub returns : goal.returns
returns c =
    let xs = c.deref-2.result.now in
    let n = c.self.inside.cut in
    ap (map items) (take_all (length xs - n) (drop n xs) (omega (arith, length-drop n xs))) ∙ (ap (λ l. map items (drop n l)) c.deref-2.ensures.value
    ∙ (map_dropped items n c.self.inside.made.items
    ∙ (none_kept _ _ _ (ap is_kept c.self.view_is ∙ (sym c.is_kept.ensures ∙ c.if-is_kept.false)) ∙ ap back_pieces c.self.view_is)))
