use Rattle.flac_subframe.proofs.search.widths.leaves.Goals as goal

pub leaves_of-requires : goal.leaves_of-requires
leaves_of-requires c = record { places = c.requires.places; sums = c.requires.sums }

pub leaves_of-requires-2 : goal.leaves_of-requires-2
leaves_of-requires-2 c = record { places = c.requires.places; sums = c.requires.sums }

pub returns-then-residual-eq16 : goal.returns-then-residual-eq16
returns-then-residual-eq16 c = let so = c.leaves_of.ensures in record { widths = so.widths; small = so.small; costs = so.costs; bound = so.bound }

pub returns : goal.returns
returns c = let so = c.leaves_of-2.ensures in record { widths = so.widths; small = so.small; costs = so.costs; bound = so.bound }
