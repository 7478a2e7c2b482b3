use Rattle.std.proofs.Common.{List, ℤ, ap, subst, ◌∙◌}
use Rattle.std.specs.Borrow.{Bor}
use Rattle.flac_encoder.specs.Pushing.{block_channels}
use Rattle.flac_raw.specs.inner.Pushed.{GoesOnIn}
use Rattle.flac_raw.proofs.second_pass.push_block.Goals as goal

pub returns-in-Ok-clause-draft : goal.returns-in-Ok-clause-draft
returns-in-Ok-clause-draft g c =
    subst (λ l. GoesOnIn g.W.Target l c.args.draft.now c.push.new.self) (ap (λ (l : List (Bor (List ℤ))). block_channels l) c.as_slice.ensures.value ∙ c.in_ok-slices.ensures.block) c.in-Ok.ensures.draft
