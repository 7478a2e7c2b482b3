use Rattle.std.proofs.Common.{◌∙◌, sym, refl, arith, rules, tests}
use Rattle.std.specs.Prelude.{◌==◌}
use Rattle.std.specs.List.{slice_split}
use Rattle.std.proofs.lemmas.List.{length_push}
use Rattle.std.proofs.lemmas.List.FromFn.{length-enumerate_from}
use Rattle.std.proofs.lemmas.Iterator.Consumers.{YieldsList-turn, YieldsList-end, YieldsList-at, YieldsList-from_enumerate}
use Rattle.std.proofs.lemmas.Iterator.Splits.{YieldsList-from_slice_split}
use Rattle.flac_edit.proofs.LinesRead.{numbered, lines-next, lines-wrong, lines-end}
use Rattle.flac_edit.proofs.lines.comments_between.Goals as goal

pub loop-index-preserved : goal.loop-index-preserved
loop-index-preserved c =
    let lines = slice_split (λ byte. byte == 10) c.args.text.now in
    let t = YieldsList-turn (YieldsList-at c.into_iter-index-iterator.ensures.into_iter_gives (YieldsList-from_enumerate (YieldsList-at c.enumerate-index-items.ensures.source (YieldsList-from_slice_split _ (λ byte. byte == 10) _ c.split.ensures.rest c.split.ensures.done c.split.ensures.closure (λ x b q k. search (rules, tests)))) c.enumerate-index-items.ensures.count)) c.loop-index.yielded _ c.loop-index.yielded_by _ _ (c.in-Some.index, c.in-Some.line) c.in-Some.is c.next.ensures.steps in
    let at = numbered lines _ _ _ t.0 t.1 in
    c.loop-index.invariant ∙ (lines-next lines _ _ c.in-Some.line.now c.loop-index.comments.items c.in-Some-2.comment at.0 at.2 (sym c.in_ok-comment.ensures ∙ c.in-Some-2.is)
    ∙ (rw (length_push c.loop-index.yielded (c.in-Some.index, c.in-Some.line), c.in_ok-push-in-Some-2.ensures.items) refl))

pub returns-in-None-2-clause-refused : goal.returns-in-None-2-clause-refused
returns-in-None-2-clause-refused c =
    let lines = slice_split (λ byte. byte == 10) c.args.text.now in
    let t = YieldsList-turn (YieldsList-at c.into_iter-index-iterator.ensures.into_iter_gives (YieldsList-from_enumerate (YieldsList-at c.enumerate-index-items.ensures.source (YieldsList-from_slice_split _ (λ byte. byte == 10) _ c.split.ensures.rest c.split.ensures.done c.split.ensures.closure (λ x b q k. search (rules, tests)))) c.enumerate-index-items.ensures.count)) c.loop-index.yielded _ c.loop-index.yielded_by _ _ (c.in-Some.index, c.in-Some.line) c.in-Some.is c.next.ensures.steps in
    let at = numbered lines _ _ _ t.0 t.1 in
    rw at.1 (c.loop-index.invariant ∙ lines-wrong lines _ _ c.in-Some.line.now _ at.0 at.2 (sym c.in_ok-comment.ensures ∙ c.in-None-2.is))

pub returns-clause-read : goal.returns-clause-read
returns-clause-read c =
    let lines = slice_split (λ byte. byte == 10) c.args.text.now in
    let t = YieldsList-end (YieldsList-at c.into_iter-index-iterator.ensures.into_iter_gives (YieldsList-from_enumerate (YieldsList-at c.enumerate-index-items.ensures.source (YieldsList-from_slice_split _ (λ byte. byte == 10) _ c.split.ensures.rest c.split.ensures.done c.split.ensures.closure (λ x b q k. search (rules, tests)))) c.enumerate-index-items.ensures.count)) c.loop-index.yielded _ c.loop-index.yielded_by _ _ c.in-None.is c.next.ensures.steps in
    c.loop-index.invariant ∙ lines-end lines _ _ _ (omega (arith, t.1, length-enumerate_from 0 lines))
