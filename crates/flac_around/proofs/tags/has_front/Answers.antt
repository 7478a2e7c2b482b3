use Rattle.std.proofs.Common.{nat_lt, ap, ◌∙◌, arith}
use Rattle.flac_around.proofs.Edges.{few_tagged, front_seen}
use Rattle.flac_around.proofs.tags.has_front.Goals as goal

pub returns-then-edges-lt10 : goal.returns-then-edges-lt10
returns-then-edges-lt10 c = λ bytes is. few_tagged bytes c.args.edges.now c.if-edges-lt10.true is

pub returns : goal.returns
returns c = λ bytes is. ap (nat_lt 0) (c.front_length.ensures.value ∙ front_seen bytes c.args.edges.now c.if-edges-lt10.false is)
