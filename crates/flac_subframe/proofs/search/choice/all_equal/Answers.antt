use Rattle.std.proofs.Common.{arith, refl}
use Rattle.flac_subframe.proofs.lemmas.format.Differences.{all_first}
use Rattle.flac_subframe.proofs.search.choice.all_equal.Goals as goal

pub returns : goal.returns
returns c = (λ _. all_first c.args.samples.now (λ k h. c.loop-sample.invariant k (omega arith)), λ _. refl)
