use Rattle.std.proofs.Common.{arith}
use Rattle.flac_native.specs.Given.{frame_lists}
use Rattle.flac_native.proofs.Planned.{planned, block_small}
use Rattle.flac_c.proofs.Searched.{none_sought}
use Rattle.flac_c.proofs.searching.searched.Goals as goal

pub found_in-requires-clause-some : goal.found_in-requires-clause-some
found_in-requires-clause-some c =
    let q = planned c.args.plan c.block_size-block.ensures.good in
    omega (arith, c.block_size-block.ensures.value, q.least)

pub found_in-requires-clause-few : goal.found_in-requires-clause-few
found_in-requires-clause-few c =
    let q = planned c.args.plan c.block_size-block.ensures.good in
    omega (arith, c.block_size-block.ensures.value, block_small c.args.plan q)

pub returns-clause-searched : goal.returns-clause-searched
returns-clause-searched c = record {
  found = frame_lists c.in_ok-found.found.items;
  sought = λ zero. absurd (none_sought c.in-Some.search (c.in-Some.ensures zero));
  is = c.with_found.ensures;
}
