use Rattle.std.proofs.Common.{◌≡◌, ◌∙◌, ◌+◌, Err, refl, arith, rules, tests}
use Rattle.std.specs.Prelude.{◌==◌}
use Rattle.std.specs.List.{slice_split}
use Rattle.std.proofs.lemmas.List.{length_push}
use Rattle.std.proofs.lemmas.List.FromFn.{length-enumerate_from}
use Rattle.std.proofs.lemmas.Iterator.Consumers.{YieldsList-turn, YieldsList-end, YieldsList-at, YieldsList-from_enumerate}
use Rattle.std.proofs.lemmas.Iterator.Splits.{YieldsList-from_slice_split}
use Rattle.flac_cue.specs.Reading.{after_line, after_lines}
use Rattle.flac_cue.proofs.Steps.{numbered, lines-next, lines-wrong, lines-end, each_rule, line_of}
use Rattle.flac_cue.proofs.reading.take_lines.Goals as goal

pub loop-index-preserved : goal.loop-index-preserved
loop-index-preserved c =
    let lines = slice_split (λ byte. byte == 10) c.args.text.now in
    let t = YieldsList-turn (YieldsList-at c.into_iter-index-iterator.ensures.into_iter_gives (YieldsList-from_enumerate (YieldsList-at c.enumerate-index-items.ensures.source (YieldsList-from_slice_split _ (λ byte. byte == 10) _ c.split.ensures.rest c.split.ensures.done c.split.ensures.closure (λ x b q k. search (rules, tests)))) c.enumerate-index-items.ensures.count)) c.loop-index.yielded _ c.loop-index.yielded_by _ _ (c.in-Some.index, c.in-Some.line) c.in-Some.is c.next.ensures.steps in
    let at = numbered lines _ _ _ t.0 t.1 in
    record {
      taken =
          c.loop-index.invariant.taken ∙ (lines-next c.args.audio.now lines _ _ c.in-Some.line.now c.loop-index.open c.take_line.new.open at.0 at.2 c.in-Ok.ensures
          ∙ (rw (length_push c.loop-index.yielded (c.in-Some.index, c.in-Some.line)) refl));
      counted = omega (arith, at.1, length_push c.loop-index.yielded (c.in-Some.index, c.in-Some.line));
    }

pub returns-in-Err-clause-refused : goal.returns-in-Err-clause-refused
returns-in-Err-clause-refused c =
    let lines = slice_split (λ byte. byte == 10) c.args.text.now in
    let t = YieldsList-turn (YieldsList-at c.into_iter-index-iterator.ensures.into_iter_gives (YieldsList-from_enumerate (YieldsList-at c.enumerate-index-items.ensures.source (YieldsList-from_slice_split _ (λ byte. byte == 10) _ c.split.ensures.rest c.split.ensures.done c.split.ensures.closure (λ x b q k. search (rules, tests)))) c.enumerate-index-items.ensures.count)) c.loop-index.yielded _ c.loop-index.yielded_by _ _ (c.in-Some.index, c.in-Some.line) c.in-Some.is c.next.ensures.steps in
    let at = numbered lines _ _ _ t.0 t.1 in
    line_of (λ n y. after_lines c.args.audio.now 1 c.args.open.now lines ≡ Err (n, y)) (c.in-Some.index + 1) c.in-Err.wrong c.at.result c.at.ensures
    (each_rule (λ y. after_line c.args.audio.now c.loop-index.open c.in-Some.line.now ≡ Err y) (λ y. after_lines c.args.audio.now 1 c.args.open.now lines ≡ Err (c.in-Some.index + 1, y)) c.in-Err.wrong
    (λ y h. rw at.1 (c.loop-index.invariant.taken ∙ lines-wrong c.args.audio.now lines _ _ c.in-Some.line.now c.loop-index.open y at.0 at.2 h)) c.in-Err.ensures)

pub returns-clause-read : goal.returns-clause-read
returns-clause-read c =
    let lines = slice_split (λ byte. byte == 10) c.args.text.now in
    let t = YieldsList-end (YieldsList-at c.into_iter-index-iterator.ensures.into_iter_gives (YieldsList-from_enumerate (YieldsList-at c.enumerate-index-items.ensures.source (YieldsList-from_slice_split _ (λ byte. byte == 10) _ c.split.ensures.rest c.split.ensures.done c.split.ensures.closure (λ x b q k. search (rules, tests)))) c.enumerate-index-items.ensures.count)) c.loop-index.yielded _ c.loop-index.yielded_by _ _ c.in-None.is c.next.ensures.steps in
    c.loop-index.invariant.taken ∙ lines-end c.args.audio.now lines _ _ _ (omega (arith, t.1, length-enumerate_from 0 lines))

pub returns-clause-counted : goal.returns-clause-counted
returns-clause-counted c =
    let lines = slice_split (λ byte. byte == 10) c.args.text.now in
    let t = YieldsList-end (YieldsList-at c.into_iter-index-iterator.ensures.into_iter_gives (YieldsList-from_enumerate (YieldsList-at c.enumerate-index-items.ensures.source (YieldsList-from_slice_split _ (λ byte. byte == 10) _ c.split.ensures.rest c.split.ensures.done c.split.ensures.closure (λ x b q k. search (rules, tests)))) c.enumerate-index-items.ensures.count)) c.loop-index.yielded _ c.loop-index.yielded_by _ _ c.in-None.is c.next.ensures.steps in
    c.loop-index.invariant.counted ∙ omega (arith, t.1, length-enumerate_from 0 lines)
