use Rattle.std.proofs.Common.{◌∙◌, ◌∷◌, [], map, sym, refl, ap, inl, inr, arith, rules, tests}
use Rattle.std.specs.Prelude.{◌==◌}
use Rattle.std.specs.List.{slice_split}
use Rattle.std.proofs.lemmas.List.{append-nil, length_push, map-append}
use Rattle.std.proofs.lemmas.List.FromFn.{length-enumerate_from}
use Rattle.std.proofs.lemmas.Iterator.Consumers.{YieldsList-turn, YieldsList-end, YieldsList-at, YieldsList-from_enumerate}
use Rattle.std.proofs.lemmas.Iterator.Splits.{YieldsList-from_slice_split}
use Rattle.std.proofs.lemmas.Result.{err_from_is_err_and}
use Rattle.flac_subframe.specs.format.Handed.{predictor_of}
use Rattle.flac_cli.specs.inner.Predictors.{found_in}
use Rattle.flac_cli.proofs.Listed.{numbered, lines-next, lines-wrong, lines-end}
use Rattle.flac_cli.proofs.predictors.predictors_in.Goals as goal

pub loop-index-preserved-in-Blank : goal.loop-index-preserved-in-Blank
loop-index-preserved-in-Blank c =
    let lines = slice_split (λ byte. byte == 10) c.args.text.now in
    let t = YieldsList-turn (YieldsList-at c.into_iter-index-iterator.ensures.into_iter_gives (YieldsList-from_enumerate (YieldsList-at c.enumerate-index-items.ensures.source (YieldsList-from_slice_split _ (λ byte. byte == 10) _ c.split.ensures.rest c.split.ensures.done c.split.ensures.closure (λ x b q k. search (rules, tests)))) c.enumerate-index-items.ensures.count)) c.loop-index.yielded _ c.loop-index.yielded_by _ _ (c.in-Some.index, c.in-Some.line) c.in-Some.is c.next.ensures.steps in
    let at = numbered lines _ _ _ t.0 t.1 in
    c.loop-index.invariant ∙ (lines-next lines _ _ c.in-Some.line.now (map predictor_of c.loop-index.predictors.items) [] at.0 at.2 (sym c.in_ok-line_in.ensures ∙ ap found_in c.in-Blank.is)
    ∙ (rw (length_push c.loop-index.yielded (c.in-Some.index, c.in-Some.line), append-nil (map predictor_of c.loop-index.predictors.items)) refl))

pub loop-index-preserved : goal.loop-index-preserved
loop-index-preserved c =
    let lines = slice_split (λ byte. byte == 10) c.args.text.now in
    let t = YieldsList-turn (YieldsList-at c.into_iter-index-iterator.ensures.into_iter_gives (YieldsList-from_enumerate (YieldsList-at c.enumerate-index-items.ensures.source (YieldsList-from_slice_split _ (λ byte. byte == 10) _ c.split.ensures.rest c.split.ensures.done c.split.ensures.closure (λ x b q k. search (rules, tests)))) c.enumerate-index-items.ensures.count)) c.loop-index.yielded _ c.loop-index.yielded_by _ _ (c.in-Some.index, c.in-Some.line) c.in-Some.is c.next.ensures.steps in
    let at = numbered lines _ _ _ t.0 t.1 in
    c.loop-index.invariant ∙ (lines-next lines _ _ c.in-Some.line.now (map predictor_of c.loop-index.predictors.items) (predictor_of c.in-Predictor.predictor ∷ []) at.0 at.2 (sym c.in_ok-line_in.ensures ∙ ap found_in c.in-Predictor.is)
    ∙ (rw (length_push c.loop-index.yielded (c.in-Some.index, c.in-Some.line), c.in_ok-push-in-Predictor.ensures.items, map-append predictor_of c.loop-index.predictors.items (c.in-Predictor.predictor ∷ [])) refl))

pub returns-in-Wrong-clause-refused : goal.returns-in-Wrong-clause-refused
returns-in-Wrong-clause-refused c =
    let lines = slice_split (λ byte. byte == 10) c.args.text.now in
    let t = YieldsList-turn (YieldsList-at c.into_iter-index-iterator.ensures.into_iter_gives (YieldsList-from_enumerate (YieldsList-at c.enumerate-index-items.ensures.source (YieldsList-from_slice_split _ (λ byte. byte == 10) _ c.split.ensures.rest c.split.ensures.done c.split.ensures.closure (λ x b q k. search (rules, tests)))) c.enumerate-index-items.ensures.count)) c.loop-index.yielded _ c.loop-index.yielded_by _ _ (c.in-Some.index, c.in-Some.line) c.in-Some.is c.next.ensures.steps in
    let at = numbered lines _ _ _ t.0 t.1 in
    inr (rw at.1 (c.loop-index.invariant ∙ lines-wrong lines _ _ c.in-Some.line.now _ at.0 at.2 (sym c.in_ok-line_in.ensures ∙ ap found_in c.in-Wrong.is)))

pub returns-clause-list : goal.returns-clause-list
returns-clause-list c =
    let lines = slice_split (λ byte. byte == 10) c.args.text.now in
    let t = YieldsList-end (YieldsList-at c.into_iter-index-iterator.ensures.into_iter_gives (YieldsList-from_enumerate (YieldsList-at c.enumerate-index-items.ensures.source (YieldsList-from_slice_split _ (λ byte. byte == 10) _ c.split.ensures.rest c.split.ensures.done c.split.ensures.closure (λ x b q k. search (rules, tests)))) c.enumerate-index-items.ensures.count)) c.loop-index.yielded _ c.loop-index.yielded_by _ _ c.in-None.is c.next.ensures.steps in
    c.loop-index.invariant ∙ lines-end lines _ _ _ (omega (arith, t.1, length-enumerate_from 0 lines))

pub returns-in_err-line_in : goal.returns-in_err-line_in
returns-in_err-line_in c =
    let p = err_from_is_err_and c.from_residual.result c.from_residual.ensures.1 in
    rw (p.1, p.2) (record { list = tt; refused = inl refl })

pub returns-in_err-push-in-Predictor : goal.returns-in_err-push-in-Predictor
returns-in_err-push-in-Predictor c =
    let p = err_from_is_err_and c.from_residual-in_err-push-in-Predictor.result c.from_residual-in_err-push-in-Predictor.ensures.1 in
    rw (p.1, p.2) (record { list = tt; refused = inl refl })
