use Rattle.std.proofs.Common.{◌∙◌}
use Rattle.flac_around.proofs.Edges.{few_untagged, back_seen}
use Rattle.flac_around.proofs.tags.has_back.Goals as goal

pub returns-then-edges-lt128 : goal.returns-then-edges-lt128
returns-then-edges-lt128 c = λ bytes is. few_untagged bytes c.args.edges.now c.if-edges-lt128.true is

pub returns : goal.returns
returns c = λ bytes is. c.is_back.ensures ∙ back_seen bytes c.args.edges.now c.if-edges-lt128.false is
