use Rattle.flac_subframe.proofs.lemmas.format.Summing.{sample_is, sample_near}
use Rattle.flac_subframe.proofs.format.restoration.sample_of.Goals as goal

pub returns-clause-value : goal.returns-clause-value
returns-clause-value c = sample_is c.args.sum c.args.residual c.args.shift c.requires.sum c.requires.residual

pub returns-clause-near : goal.returns-clause-near
returns-clause-near c = sample_near c.args.sum c.args.residual c.args.shift c.requires.sum c.requires.residual
