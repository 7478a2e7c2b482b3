use Rattle.flac_subframe.proofs.lemmas.search.Family.{none_within}
use Rattle.flac_subframe.proofs.search.chosen.choose.Goals as goal

pub choose_with-requires-clause-orders : goal.choose_with-requires-clause-orders
choose_with-requires-clause-orders c = none_within 0

pub returns-clause-least : goal.returns-clause-least
returns-clause-least c = c.choose_with.ensures.least

pub returns-clause-bits : goal.returns-clause-bits
returns-clause-bits c = c.choose_with.ensures.bits

pub returns-clause-made : goal.returns-clause-made
returns-clause-made c = c.choose_with.ensures.made

pub returns-clause-valid : goal.returns-clause-valid
returns-clause-valid c = λ limits le. c.choose_with.ensures.valid limits le (none_within limits.linear)

pub returns-clause-restored : goal.returns-clause-restored
returns-clause-restored c = c.choose_with.ensures.restored
