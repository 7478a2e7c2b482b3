use Rattle.std.proofs.Common.{◌∙◌, ap, map, sym, take}
use Rattle.flac_cli.specs.inner.Waving.{is_kept, front_pieces}
use Rattle.flac_cli.proofs.Waved.{map_taken, items, none_kept, some_kept}
use Rattle.flac_cli.proofs.held_wave.HeldWave.front.Goals as goal

pub returns-then-is_kept : goal.returns-then-is_kept
returns-then-is_kept c =
    let n = c.self.inside.head in
    ap (λ l. map items (take n l)) c.deref.ensures.value ∙ (map_taken items n c.self.inside.pieces.items
    ∙ (some_kept _ _ _ (ap is_kept c.self.view_is ∙ (sym c.is_kept.ensures ∙ c.if-is_kept.true)) ∙ ap front_pieces c.self.view_is))

pub returns : goal.returns
returns c =
    let n = c.self.inside.cut in
    ap (λ l. map items (take n l)) c.deref-2.ensures.value ∙ (map_taken items n c.self.inside.made.items
    ∙ (none_kept _ _ _ (ap is_kept c.self.view_is ∙ (sym c.is_kept.ensures ∙ c.if-is_kept.false)) ∙ ap front_pieces c.self.view_is))
