use Rattle.std.proofs.Common.{sym, ◌∙◌}
use Rattle.flac_around.proofs.Edges.{front_decides, back_decides}
use Rattle.flac_around.proofs.tags.has_tags.Goals as goal

pub returns-then-has_front : goal.returns-then-has_front
returns-then-has_front c = λ bytes is. front_decides bytes (sym c.if-has_front.true ∙ c.has_front.ensures bytes is)

pub returns : goal.returns
returns c = λ bytes is. back_decides bytes c.has_back.result (sym c.if-has_front.false ∙ c.has_front.ensures bytes is) (c.has_back.ensures bytes is)
