use Rattle.flac_subframe.proofs.lemmas.format.Packing.{sample_is, sample_fits, sample_near}
use Rattle.flac_subframe.proofs.format.packed.sample_of.Goals as goal

pub overflow_add-result-2 : goal.overflow_add-result-2
overflow_add-result-2 c = sample_fits c.args.first c.args.residual c.args.shift c.ranges.first c.requires.residual

pub returns-clause-value : goal.returns-clause-value
returns-clause-value c = λ high low small is. sample_is c.args.first c.args.residual c.args.shift c.ranges.first c.requires.residual high low small is

pub returns-clause-near : goal.returns-clause-near
returns-clause-near c = sample_near c.args.first c.args.residual c.args.shift c.ranges.first c.requires.residual
