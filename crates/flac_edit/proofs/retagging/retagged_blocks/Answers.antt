use Rattle.std.proofs.Common.{◌∙◌, ap}
use Rattle.std.proofs.lemmas.Result.{IfOk-weaker}
use Rattle.flac_native.specs.Retag.{without_comments}
use Rattle.flac_edit.specs.Edited.{edited}
use Rattle.flac_edit.specs.Tagged.{comments_among}
use Rattle.flac_edit.proofs.RetaggedBlocks.{found_again, others_stay}
use Rattle.flac_edit.proofs.retagging.retagged_blocks.Goals as goal

pub returns-clause-comments : goal.returns-clause-comments
returns-clause-comments c =
    let new = c.in_ok-new.ensures ∙ ap (edited c.args.edits.now) c.in_ok-old.ensures in
    IfOk-weaker c.with_comments.result _ _ (λ list made. ap comments_among made ∙ found_again c.in_ok-new.new c.args.blocks.now ∙ new) c.with_comments.ensures

pub returns-clause-others : goal.returns-clause-others
returns-clause-others c = IfOk-weaker c.with_comments.result _ _ (λ list made. ap without_comments made ∙ others_stay c.in_ok-new.new c.args.blocks.now) c.with_comments.ensures
