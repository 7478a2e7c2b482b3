use Rattle.flac_subframe.proofs.format.leaving.take_fixed.Goals as goal

pub take_order-requires : goal.take_order-requires
take_order-requires c = record { order = (rw c.in-0.is at c.requires.order); fits = c.requires.fits; places = (rw c.in-0.is at c.requires.places) }

pub returns-in-0 : goal.returns-in-0
returns-in-0 c = record { all = rw c.in-0.is c.take_order.ensures; long = c.take_order.auto.values }

pub take_order-requires-in-1 : goal.take_order-requires-in-1
take_order-requires-in-1 c = record { order = (rw c.in-1.is at c.requires.order); fits = c.requires.fits; places = (rw c.in-1.is at c.requires.places) }

pub returns-in-1 : goal.returns-in-1
returns-in-1 c = record { all = rw c.in-1.is c.take_order-in-1.ensures; long = c.take_order-in-1.auto.values }

pub take_order-requires-in-2 : goal.take_order-requires-in-2
take_order-requires-in-2 c = record { order = (rw c.in-2.is at c.requires.order); fits = c.requires.fits; places = (rw c.in-2.is at c.requires.places) }

pub returns-in-2 : goal.returns-in-2
returns-in-2 c = record { all = rw c.in-2.is c.take_order-in-2.ensures; long = c.take_order-in-2.auto.values }

pub take_order-requires-in-3 : goal.take_order-requires-in-3
take_order-requires-in-3 c = record { order = (rw c.in-3.is at c.requires.order); fits = c.requires.fits; places = (rw c.in-3.is at c.requires.places) }

pub returns-in-3 : goal.returns-in-3
returns-in-3 c = record { all = rw c.in-3.is c.take_order-in-3.ensures; long = c.take_order-in-3.auto.values }

pub take_order-requires-in-4 : goal.take_order-requires-in-4
take_order-requires-in-4 c = record { order = (rw c.in-4.is at c.requires.order); fits = c.requires.fits; places = (rw c.in-4.is at c.requires.places) }

pub returns-in-4 : goal.returns-in-4
returns-in-4 c = record { all = rw c.in-4.is c.take_order-in-4.ensures; long = c.take_order-in-4.auto.values }

pub take_order-requires-in_default : goal.take_order-requires-in_default
take_order-requires-in_default c = record { order = c.requires.order; fits = c.requires.fits; places = c.requires.places }

pub returns-in_default : goal.returns-in_default
returns-in_default c = record { all = c.take_order-in_default.ensures; long = c.take_order-in_default.auto.values }
