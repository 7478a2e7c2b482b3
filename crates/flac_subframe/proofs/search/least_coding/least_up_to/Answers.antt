use Rattle.flac_subframe.proofs.lemmas.search.Places.{fewer_places}
use Rattle.flac_subframe.proofs.search.least_coding.least_up_to.Goals as goal

pub least_at_once-requires : goal.least_at_once-requires
least_at_once-requires c = record { places = rw c.at.ensures.partition_order (fewer_places c.args.partition_order c.args.residual.now.partition_order c.args.tables.now c.requires.within c.requires.places) }

pub returns-clause-least : goal.returns-clause-least
returns-clause-least c = let e = c.at.ensures in rw (e.values, e.order, e.partition_order) at c.least_at_once.ensures.least

pub returns-clause-bits : goal.returns-clause-bits
returns-clause-bits c = let e = c.at.ensures in rw (e.values, e.order) at c.least_at_once.ensures.bits

pub returns-clause-within : goal.returns-clause-within
returns-clause-within c = rw c.at.ensures.partition_order at c.least_at_once.ensures.within

pub returns-clause-none : goal.returns-clause-none
returns-clause-none c = let e = c.at.ensures in rw (e.values, e.order, e.partition_order) at c.least_at_once.ensures.none
