use Rattle.std.proofs.Common.{ℕ, List, [], ◌∷◌, get_or, ap, ◌∙◌}
use Rattle.flac_around.proofs.PageChecks.{laid}
use Rattle.flac_around.proofs.page_parts.head_bytes.Goals as goal

pub returns : goal.returns
returns c =
    laid c.copy_from_slice.new.self c.copy_from_slice-2.new.self c.args.fields.now _ c.requires c.copy_from_slice.ensures.after
    (c.copy_from_slice-2.ensures.after ∙ ap (λ (l : List ℕ). get_or l 0 0 ∷ get_or l 1 0 ∷ get_or l 2 0 ∷ get_or l 3 0 ∷ c.args.count ∷ []) c.to_le_bytes.ensures)
