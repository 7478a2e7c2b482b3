use Rattle.std.proofs.Common.{arith}
use Rattle.std.proofs.lemmas.Option.{IfSome_then}
use Rattle.flac_subframe.proofs.lemmas.search.Finer.{found_still, none_finer}
use Rattle.flac_subframe.proofs.search.least_coding.least_of_finer.Goals as goal

pub returns-then-finest-le-COARSE-clause-none : goal.returns-then-finest-le-COARSE-clause-none
returns-then-finest-le-COARSE-clause-none c = λ f m b. c.finest_in_doubt-finest.ensures.dear f m (omega (arith, b))

pub returns-clause-least : goal.returns-clause-least
returns-clause-least c =
    let r = c.args.residual.now in let doubt = c.finest_in_doubt-finest in let found = c.least_up_to in
    found_still r.order doubt.result.0 r.partition_order r.values.now doubt.ensures.within.1 c.args.below doubt.ensures.dear found.result _ found.ensures.least found.ensures.bits (IfSome_then found.result found.ensures.less (λ f b. omega (arith, b)))

pub returns-clause-within : goal.returns-clause-within
returns-clause-within c = IfSome_then c.least_up_to.result c.least_up_to.ensures.within (λ f b. omega (arith, b, c.finest_in_doubt-finest.ensures.within))

pub returns-clause-none : goal.returns-clause-none
returns-clause-none c =
    let r = c.args.residual.now in let doubt = c.finest_in_doubt-finest in
    none_finer r.order doubt.result.0 r.partition_order r.values.now doubt.ensures.within.1 c.args.below doubt.ensures.dear c.least_up_to.result c.least_up_to.ensures.none
