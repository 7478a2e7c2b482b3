use Rattle.std.proofs.Common.{arith}
use Rattle.flac_predict.proofs.Lists.{due_none, due_is}
use Rattle.flac_predict.proofs.finder.Finder.find.Goals as goal

pub returns-clause-planes : goal.returns-clause-planes
returns-clause-planes c = due_is c.args.audio.now _ _ (omega (arith, c.if-size-lt-LEAST_BLOCK.false)) c.in_ok-lists.ensures.pair c.in_ok-lists.ensures.apart
