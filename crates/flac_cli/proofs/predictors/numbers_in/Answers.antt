use Rattle.std.proofs.Common.{◌∙◌, sym, refl, arith, rules, tests}
use Rattle.std.proofs.lemmas.Iterator.Consumers.{YieldsList-turn, YieldsList-end, YieldsList-at}
use Rattle.std.proofs.lemmas.List.{length_push}
use Rattle.std.proofs.lemmas.Iterator.Splits.{YieldsList-from_slice_split}
use Rattle.flac_cli.specs.Predictors.{is_blank}
use Rattle.flac_cli.proofs.Listed.{parts_of, no_bytes, some_bytes, empty-next, numbers-next, numbers-none, numbers-end}
use Rattle.flac_cli.proofs.predictors.numbers_in.Goals as goal

pub returns-in_default : goal.returns-in_default
returns-in_default c =
    let t = YieldsList-turn (YieldsList-at c.into_iter-word-iterator.ensures.into_iter_gives (YieldsList-from_slice_split _ is_blank _ (c.split-word-items.ensures.rest ∙ c.without_comment.ensures) c.split-word-items.ensures.done c.split-word-items.ensures.closure (λ x b q k. search (rules, tests)))) c.loop-word.yielded _ c.loop-word.yielded_by _ _ c.in-Some.word c.in-Some.is c.next.ensures.steps in
    sym (c.loop-word.invariant ∙ numbers-none (parts_of c.args.line.now) _ c.in-Some.word.now _ t.0 t.1 (some_bytes _ _ c.is_empty.ensures c.if-is_empty.false) (sym c.number_in.ensures ∙ c.in_default.is))

pub loop-word-preserved-then-is_empty : goal.loop-word-preserved-then-is_empty
loop-word-preserved-then-is_empty c =
    let t = YieldsList-turn (YieldsList-at c.into_iter-word-iterator.ensures.into_iter_gives (YieldsList-from_slice_split _ is_blank _ (c.split-word-items.ensures.rest ∙ c.without_comment.ensures) c.split-word-items.ensures.done c.split-word-items.ensures.closure (λ x b q k. search (rules, tests)))) c.loop-word.yielded _ c.loop-word.yielded_by _ _ c.in-Some.word c.in-Some.is c.next.ensures.steps in
    c.loop-word.invariant ∙ (empty-next (parts_of c.args.line.now) _ c.in-Some.word.now c.loop-word.numbers.items t.0 t.1 (no_bytes _ _ c.is_empty.ensures c.if-is_empty.true)
    ∙ (rw (length_push c.loop-word.yielded c.in-Some.word) refl))

pub loop-word-preserved : goal.loop-word-preserved
loop-word-preserved c =
    let t = YieldsList-turn (YieldsList-at c.into_iter-word-iterator.ensures.into_iter_gives (YieldsList-from_slice_split _ is_blank _ (c.split-word-items.ensures.rest ∙ c.without_comment.ensures) c.split-word-items.ensures.done c.split-word-items.ensures.closure (λ x b q k. search (rules, tests)))) c.loop-word.yielded _ c.loop-word.yielded_by _ _ c.in-Some.word c.in-Some.is c.next.ensures.steps in
    c.loop-word.invariant ∙ (numbers-next (parts_of c.args.line.now) _ c.in-Some.word.now c.loop-word.numbers.items c.in-Some-number_in.number t.0 t.1 (some_bytes _ _ c.is_empty.ensures c.if-is_empty.false) (sym c.number_in.ensures ∙ c.in-Some-number_in.is)
    ∙ (rw (length_push c.loop-word.yielded c.in-Some.word, c.in_ok-push.ensures.items) (search rules)))

pub returns : goal.returns
returns c =
    let t = YieldsList-end (YieldsList-at c.into_iter-word-iterator.ensures.into_iter_gives (YieldsList-from_slice_split _ is_blank _ (c.split-word-items.ensures.rest ∙ c.without_comment.ensures) c.split-word-items.ensures.done c.split-word-items.ensures.closure (λ x b q k. search (rules, tests)))) c.loop-word.yielded _ c.loop-word.yielded_by _ _ c.in-None.is c.next.ensures.steps in
    sym (c.loop-word.invariant ∙ numbers-end (parts_of c.args.line.now) _ _ (omega (arith, t.1)))
