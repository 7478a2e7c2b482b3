use Rattle.flac_subframe.proofs.search.fixed_leaves.leaves_by_fixed.Goals as goal

pub returns-in-0-clause-widths : goal.returns-in-0-clause-widths
returns-in-0-clause-widths c = rw c.in-0.is c.leaves_of_order.ensures.widths

pub returns-in-1-clause-widths : goal.returns-in-1-clause-widths
returns-in-1-clause-widths c = rw c.in-1.is c.leaves_of_order-in-1.ensures.widths

pub returns-in-2-clause-widths : goal.returns-in-2-clause-widths
returns-in-2-clause-widths c = rw c.in-2.is c.leaves_of_order-in-2.ensures.widths

pub returns-in-3-clause-widths : goal.returns-in-3-clause-widths
returns-in-3-clause-widths c = rw c.in-3.is c.leaves_of_order-in-3.ensures.widths

pub returns-in-4-clause-widths : goal.returns-in-4-clause-widths
returns-in-4-clause-widths c = rw c.in-4.is c.leaves_of_order-in-4.ensures.widths
