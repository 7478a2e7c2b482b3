use Rattle.std.proofs.Common.{ap, ◌∙◌}
use Rattle.flac_around.proofs.ChainNames.{same_start}
use Rattle.flac_chain.proofs.link.end_link.Goals as goal

pub returns-in-Ok-clause-names : goal.returns-in-Ok-clause-names
returns-in-Ok-clause-names g c = ap g.R.Source.names c.into_source.ensures.source ∙ (same_start c.pass.new.self c.args.link c.pass.ensures.names).names

pub returns-in-Err-clause-names : goal.returns-in-Err-clause-names
returns-in-Err-clause-names g c = ap g.R.Source.names c.into_source-in-Err.ensures.source ∙ (same_start c.pass.new.self c.args.link c.pass.ensures.names).names
