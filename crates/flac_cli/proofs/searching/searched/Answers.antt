use Rattle.std.proofs.Common.{List, arith, subst}
use Rattle.flac_native.specs.Given.{frame_lists}
use Rattle.flac_native.proofs.Planned.{planned, block_small}
use Rattle.flac_predict.specs.Found.{AllBegin}
use Rattle.flac_subframe.specs.declared.format.linear.LinearPredictor.{LinearPredictor}
use Rattle.flac_cli.proofs.Searched.{sought_lists}
use Rattle.flac_cli.proofs.searching.searched.Goals as goal

pub found_in-requires-clause-some : goal.found_in-requires-clause-some
found_in-requires-clause-some c =
    let q = planned c.args.plan c.block_size-block.ensures.good in
    omega (arith, c.block_size-block.ensures.value, q.least)

pub found_in-requires-clause-few : goal.found_in-requires-clause-few
found_in-requires-clause-few c =
    let q = planned c.args.plan c.block_size-block.ensures.good in
    omega (arith, c.block_size-block.ensures.value, block_small c.args.plan q)

pub returns-clause-searched : goal.returns-clause-searched
returns-clause-searched c =
    let found = frame_lists c.in_ok-found.found.items in
    sought_lists c.args.effort c.args.plan c.in-Some.search c.with_found.result found c.in-Some.ensures c.with_found.ensures
    (subst (λ (ps : List LinearPredictor). AllBegin ps found) c.predictors.ensures.list c.in_ok-found.ensures.begins)
