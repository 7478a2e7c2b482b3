use Rattle.std.proofs.Common.{ℕ, [], ◌∷◌, ◌++◌, length, take, sym, ap, ◌∙◌}
use Rattle.std.specs.Int.{to_le_bytes, w32}
use Rattle.std.proofs.lemmas.List.{length-take-le, length-drop}
use Rattle.flac_around.proofs.PageChecks.{completed, head_long}
use Rattle.flac_around.proofs.page_parts.complete.Goals as goal

pub copy_from_slice-requires : goal.copy_from_slice-requires
copy_from_slice-requires c = let lead = c.args.lead.now in length-take-le 27 lead c.requires.least ∙ sym (ap length c.head_bytes-head.ensures ∙ head_long lead _ _ c.requires.least)

pub returns : goal.returns
returns c =
    let lead = c.args.lead.now in
    completed lead c.args.body.now c.copy_from_slice.new.self c.checksum-sum.result
    (c.copy_from_slice.ensures.after ∙ c.head_bytes-head.ensures ∙ ap (λ (n : ℕ). take 22 lead ++ (to_le_bytes w32 c.checksum-sum.result ++ n ∷ [])) (sym (length-drop 27 lead)))
    c.checksum-sum.ensures
