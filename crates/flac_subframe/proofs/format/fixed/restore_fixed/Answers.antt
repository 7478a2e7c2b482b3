use Rattle.flac_subframe.proofs.format.fixed.restore_fixed.Goals as goal

pub restore_order-requires-clause-order : goal.restore_order-requires-clause-order
restore_order-requires-clause-order c = rw c.in-0.is at c.requires.order

pub restore_order-requires-clause-enough : goal.restore_order-requires-clause-enough
restore_order-requires-clause-enough c = rw c.in-0.is at c.requires.enough

pub restore_order-requires-clause-warm_up : goal.restore_order-requires-clause-warm_up
restore_order-requires-clause-warm_up c = rw c.in-0.is at c.requires.warm_up

pub restore_order-requires-clause-residual : goal.restore_order-requires-clause-residual
restore_order-requires-clause-residual c = rw c.in-0.is at c.requires.residual

pub returns-in-0-clause-restored : goal.returns-in-0-clause-restored
returns-in-0-clause-restored c = rw c.in-0.is c.restore_order.ensures.restored

pub returns-in-0-clause-only : goal.returns-in-0-clause-only
returns-in-0-clause-only c = rw c.in-0.is c.restore_order.ensures.only

pub restore_order-requires-in-1-clause-order : goal.restore_order-requires-in-1-clause-order
restore_order-requires-in-1-clause-order c = rw c.in-1.is at c.requires.order

pub restore_order-requires-in-1-clause-enough : goal.restore_order-requires-in-1-clause-enough
restore_order-requires-in-1-clause-enough c = rw c.in-1.is at c.requires.enough

pub restore_order-requires-in-1-clause-warm_up : goal.restore_order-requires-in-1-clause-warm_up
restore_order-requires-in-1-clause-warm_up c = rw c.in-1.is at c.requires.warm_up

pub restore_order-requires-in-1-clause-residual : goal.restore_order-requires-in-1-clause-residual
restore_order-requires-in-1-clause-residual c = rw c.in-1.is at c.requires.residual

pub returns-in-1-clause-restored : goal.returns-in-1-clause-restored
returns-in-1-clause-restored c = rw c.in-1.is c.restore_order-in-1.ensures.restored

pub returns-in-1-clause-only : goal.returns-in-1-clause-only
returns-in-1-clause-only c = rw c.in-1.is c.restore_order-in-1.ensures.only

pub restore_order-requires-in-2-clause-order : goal.restore_order-requires-in-2-clause-order
restore_order-requires-in-2-clause-order c = rw c.in-2.is at c.requires.order

pub restore_order-requires-in-2-clause-enough : goal.restore_order-requires-in-2-clause-enough
restore_order-requires-in-2-clause-enough c = rw c.in-2.is at c.requires.enough

pub restore_order-requires-in-2-clause-warm_up : goal.restore_order-requires-in-2-clause-warm_up
restore_order-requires-in-2-clause-warm_up c = rw c.in-2.is at c.requires.warm_up

pub restore_order-requires-in-2-clause-residual : goal.restore_order-requires-in-2-clause-residual
restore_order-requires-in-2-clause-residual c = rw c.in-2.is at c.requires.residual

pub returns-in-2-clause-restored : goal.returns-in-2-clause-restored
returns-in-2-clause-restored c = rw c.in-2.is c.restore_order-in-2.ensures.restored

pub returns-in-2-clause-only : goal.returns-in-2-clause-only
returns-in-2-clause-only c = rw c.in-2.is c.restore_order-in-2.ensures.only

pub restore_order-requires-in-3-clause-order : goal.restore_order-requires-in-3-clause-order
restore_order-requires-in-3-clause-order c = rw c.in-3.is at c.requires.order

pub restore_order-requires-in-3-clause-enough : goal.restore_order-requires-in-3-clause-enough
restore_order-requires-in-3-clause-enough c = rw c.in-3.is at c.requires.enough

pub restore_order-requires-in-3-clause-warm_up : goal.restore_order-requires-in-3-clause-warm_up
restore_order-requires-in-3-clause-warm_up c = rw c.in-3.is at c.requires.warm_up

pub restore_order-requires-in-3-clause-residual : goal.restore_order-requires-in-3-clause-residual
restore_order-requires-in-3-clause-residual c = rw c.in-3.is at c.requires.residual

pub returns-in-3-clause-restored : goal.returns-in-3-clause-restored
returns-in-3-clause-restored c = rw c.in-3.is c.restore_order-in-3.ensures.restored

pub returns-in-3-clause-only : goal.returns-in-3-clause-only
returns-in-3-clause-only c = rw c.in-3.is c.restore_order-in-3.ensures.only

pub restore_order-requires-in-4-clause-order : goal.restore_order-requires-in-4-clause-order
restore_order-requires-in-4-clause-order c = rw c.in-4.is at c.requires.order

pub restore_order-requires-in-4-clause-enough : goal.restore_order-requires-in-4-clause-enough
restore_order-requires-in-4-clause-enough c = rw c.in-4.is at c.requires.enough

pub restore_order-requires-in-4-clause-warm_up : goal.restore_order-requires-in-4-clause-warm_up
restore_order-requires-in-4-clause-warm_up c = rw c.in-4.is at c.requires.warm_up

pub restore_order-requires-in-4-clause-residual : goal.restore_order-requires-in-4-clause-residual
restore_order-requires-in-4-clause-residual c = rw c.in-4.is at c.requires.residual

pub returns-in-4-clause-restored : goal.returns-in-4-clause-restored
returns-in-4-clause-restored c = rw c.in-4.is c.restore_order-in-4.ensures.restored

pub returns-in-4-clause-only : goal.returns-in-4-clause-only
returns-in-4-clause-only c = rw c.in-4.is c.restore_order-in-4.ensures.only
