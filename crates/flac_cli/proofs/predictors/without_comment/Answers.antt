use Rattle.std.proofs.Common.{rules, tests}
use Rattle.std.proofs.lemmas.Iterator.{YieldsList-from_slice}
use Rattle.std.proofs.lemmas.Iterator.Search.{position_from_yields_List}
use Rattle.std.proofs.lemmas.Option.{MatchOption-at_some, MatchOption-at_none}
use Rattle.std.specs.Prelude.{◌==◌}
use Rattle.flac_cli.proofs.Listed.{before-position}
use Rattle.flac_cli.proofs.predictors.without_comment.Goals as goal

pub returns-in-Some : goal.returns-in-Some
returns-in-Some c =
    let line = c.args.line.now in
    let found = position_from_yields_List (λ byte. byte == 35) _ _ c.position.result c.position.ensures.ran (YieldsList-from_slice line c.iter.ensures.rest) (λ x b q k. search (rules, tests)) in
    MatchOption-at_some _ _ _ c.in-Some.is (before-position _ line _ found)

pub returns-in-None : goal.returns-in-None
returns-in-None c =
    let line = c.args.line.now in
    let found = position_from_yields_List (λ byte. byte == 35) _ _ c.position.result c.position.ensures.ran (YieldsList-from_slice line c.iter.ensures.rest) (λ x b q k. search (rules, tests)) in
    MatchOption-at_none _ _ c.in-None.is (before-position _ line _ found)
