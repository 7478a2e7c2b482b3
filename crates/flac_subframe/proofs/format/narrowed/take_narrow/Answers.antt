use Rattle.flac_subframe.proofs.format.narrowed.take_narrow.Goals as goal

pub take_narrow_order-requires : goal.take_narrow_order-requires
take_narrow_order-requires c = record { order = (rw c.in-0.is at c.requires.order); fits = c.requires.fits; places = (rw c.in-0.is at c.requires.places); folds = c.requires.folds }

pub returns-in-0 : goal.returns-in-0
returns-in-0 c = record { values = rw c.in-0.is c.take_narrow_order.ensures.values; folds = rw c.in-0.is c.take_narrow_order.ensures.folds }

pub take_narrow_order-requires-in-1 : goal.take_narrow_order-requires-in-1
take_narrow_order-requires-in-1 c = record { order = (rw c.in-1.is at c.requires.order); fits = c.requires.fits; places = (rw c.in-1.is at c.requires.places); folds = c.requires.folds }

pub returns-in-1 : goal.returns-in-1
returns-in-1 c = record { values = rw c.in-1.is c.take_narrow_order-in-1.ensures.values; folds = rw c.in-1.is c.take_narrow_order-in-1.ensures.folds }

pub take_narrow_order-requires-in-2 : goal.take_narrow_order-requires-in-2
take_narrow_order-requires-in-2 c = record { order = (rw c.in-2.is at c.requires.order); fits = c.requires.fits; places = (rw c.in-2.is at c.requires.places); folds = c.requires.folds }

pub returns-in-2 : goal.returns-in-2
returns-in-2 c = record { values = rw c.in-2.is c.take_narrow_order-in-2.ensures.values; folds = rw c.in-2.is c.take_narrow_order-in-2.ensures.folds }

pub take_narrow_order-requires-in-3 : goal.take_narrow_order-requires-in-3
take_narrow_order-requires-in-3 c = record { order = (rw c.in-3.is at c.requires.order); fits = c.requires.fits; places = (rw c.in-3.is at c.requires.places); folds = c.requires.folds }

pub returns-in-3 : goal.returns-in-3
returns-in-3 c = record { values = rw c.in-3.is c.take_narrow_order-in-3.ensures.values; folds = rw c.in-3.is c.take_narrow_order-in-3.ensures.folds }

pub take_narrow_order-requires-in-4 : goal.take_narrow_order-requires-in-4
take_narrow_order-requires-in-4 c = record { order = (rw c.in-4.is at c.requires.order); fits = c.requires.fits; places = (rw c.in-4.is at c.requires.places); folds = c.requires.folds }

pub returns-in-4 : goal.returns-in-4
returns-in-4 c = record { values = rw c.in-4.is c.take_narrow_order-in-4.ensures.values; folds = rw c.in-4.is c.take_narrow_order-in-4.ensures.folds }

pub take_narrow_order-requires-in_default : goal.take_narrow_order-requires-in_default
take_narrow_order-requires-in_default c = record { order = c.requires.order; fits = c.requires.fits; places = c.requires.places; folds = c.requires.folds }

pub returns-in_default : goal.returns-in_default
returns-in_default c = record { values = c.take_narrow_order-in_default.ensures.values; folds = c.take_narrow_order-in_default.ensures.folds }
