use Rattle.flac_subframe.proofs.format.leaving.take_differences.Goals as goal

pub returns-clause-range : goal.returns-clause-range
returns-clause-range c = rw c.take_fixed.ensures.all at c.are_residual.ensures
