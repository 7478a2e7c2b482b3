use Rattle.std.proofs.Common.{◌≡◌, inr, ap, ◌∙◌}
use Rattle.flac_edit.specs.Edited.{edited}
use Rattle.flac_edit.specs.Places.{slots_of}
use Rattle.flac_edit.proofs.TaggedFiles.{of_slots}
use Rattle.flac_edit.proofs.tagging.change_comments.Goals as goal

pub returns-in_err-edit_in_place-clause-any_moment : goal.returns-in_err-edit_in_place-clause-any_moment
returns-in_err-edit_in_place-clause-any_moment g c =
    let slots : c.deref.result.now ≡ slots_of c.args.blocks.now = c.deref.ensures.value ∙ rw c.in-Some.is at c.in_ok-slots.ensures in
    let new = c.in_ok-new.ensures ∙ ap (edited c.args.edits.now) c.in_ok-old.ensures in
    λ k. inr (of_slots _ _ _ _ _ _ _ slots new (c.edit_in_place.ensures.any_moment k))

pub returns-then-branch-clause-any_moment : goal.returns-then-branch-clause-any_moment
returns-then-branch-clause-any_moment g c =
    let slots : c.deref.result.now ≡ slots_of c.args.blocks.now = c.deref.ensures.value ∙ rw c.in-Some.is at c.in_ok-slots.ensures in
    let new = c.in_ok-new.ensures ∙ ap (edited c.args.edits.now) c.in_ok-old.ensures in
    λ k. inr (of_slots _ _ _ _ _ _ _ slots new (c.edit_in_place.ensures.any_moment k))
