use Rattle.std.proofs.Common.{rules, ◌≡◌, ◌≤◌, ◌+◌, ◌-◌, ◌/◌, ◌%◌, ◌^◌, length, take, drop, get_or, sym, ap, ◌∙◌, arith}
use Rattle.std.proofs.lemmas.List.{length-drop, length-take}
use Rattle.flac_bits.specs.Bits.{unsigned}
use Rattle.flac_bits.specs.Check.{fed}
use Rattle.flac_bits.specs.Store.{Store, passed}
use Rattle.flac_bits.specs.State.{Mark}
use Rattle.flac_bits.proofs.Check.{past-check16}
use Rattle.flac_bits.proofs.Partly.{held_fits, checked_whole, checked_part}
use Rattle.flac_bits.proofs.held.Held.check16.Goals as goal

pub overflow_sub-whole : goal.overflow_sub-whole
overflow_sub-whole c =
    let inv = c.self.invariant in
    let begun = drop c.self.inside.from (take c.self.inside.place c.self.inside.bytes) in
    let long : length begun ≡ c.self.inside.place - c.self.inside.from = omega (arith, length-drop c.self.inside.from (take c.self.inside.place c.self.inside.bytes), length-take c.self.inside.place c.self.inside.bytes, inv.0, inv.1, inv.2, inv.4) in
    let fits = held_fits begun c.self.inside.word inv.3 in
    let mark_is = ap (λ (s : Store). s.mark) c.self.view_is in
    omega (arith, fits, long, inv.0, c.count-count.ensures.0)

pub slice_bounds-checked16-count : goal.slice_bounds-checked16-count
slice_bounds-checked16-count c =
    let inv = c.self.invariant in
    let begun = drop c.self.inside.from (take c.self.inside.place c.self.inside.bytes) in
    let long : length begun ≡ c.self.inside.place - c.self.inside.from = omega (arith, length-drop c.self.inside.from (take c.self.inside.place c.self.inside.bytes), length-take c.self.inside.place c.self.inside.bytes, inv.0, inv.1, inv.2, inv.4) in
    let fits = held_fits begun c.self.inside.word inv.3 in
    let mark_is = ap (λ (s : Store). s.mark) c.self.view_is in
    let whole = c.self.inside.place - (c.count-count.result + 7) / 8 in
    let le : c.self.inside.from ≤ whole = omega (arith, fits, long, inv.0, c.count-count.ensures.0) in
    let inside : c.self.inside.place ≤ length c.self.inside.bytes = omega (arith, inv.1, inv.2, inv.4) in
    let sum : whole + (length c.self.inside.word + 7) / 8 ≡ c.self.inside.place = omega (arith, fits, long, inv.0, c.count-count.ensures.0) in
    le

pub slice_bounds-checked16-start : goal.slice_bounds-checked16-start
slice_bounds-checked16-start c =
    let inv = c.self.invariant in
    let begun = drop c.self.inside.from (take c.self.inside.place c.self.inside.bytes) in
    let long : length begun ≡ c.self.inside.place - c.self.inside.from = omega (arith, length-drop c.self.inside.from (take c.self.inside.place c.self.inside.bytes), length-take c.self.inside.place c.self.inside.bytes, inv.0, inv.1, inv.2, inv.4) in
    let fits = held_fits begun c.self.inside.word inv.3 in
    let mark_is = ap (λ (s : Store). s.mark) c.self.view_is in
    let whole = c.self.inside.place - (c.count-count.result + 7) / 8 in
    let le : c.self.inside.from ≤ whole = omega (arith, fits, long, inv.0, c.count-count.ensures.0) in
    let inside : c.self.inside.place ≤ length c.self.inside.bytes = omega (arith, inv.1, inv.2, inv.4) in
    let sum : whole + (length c.self.inside.word + 7) / 8 ≡ c.self.inside.place = omega (arith, fits, long, inv.0, c.count-count.ensures.0) in
    let in_ : whole ≤ length c.self.inside.bytes = omega (arith, inside, sum) in search (rules, le, in_)

pub returns-then-rest-eq0 : goal.returns-then-rest-eq0
returns-then-rest-eq0 c =
    let inv = c.self.invariant in
    let begun = drop c.self.inside.from (take c.self.inside.place c.self.inside.bytes) in
    let long : length begun ≡ c.self.inside.place - c.self.inside.from = omega (arith, length-drop c.self.inside.from (take c.self.inside.place c.self.inside.bytes), length-take c.self.inside.place c.self.inside.bytes, inv.0, inv.1, inv.2, inv.4) in
    let fits = held_fits begun c.self.inside.word inv.3 in
    let mark_is = ap (λ (s : Store). s.mark) c.self.view_is in
    let whole = c.self.inside.place - (c.count-count.result + 7) / 8 in
    let le : c.self.inside.from ≤ whole = omega (arith, fits, long, inv.0, c.count-count.ensures.0) in
    let inside : c.self.inside.place ≤ length c.self.inside.bytes = omega (arith, inv.1, inv.2, inv.4) in
    let sum : whole + (length c.self.inside.word + 7) / 8 ≡ c.self.inside.place = omega (arith, fits, long, inv.0, c.count-count.ensures.0) in
    let none : length c.self.inside.word % 8 ≡ 0 = omega (arith, c.if-rest-eq0.true, c.count-count.ensures.0) in
    let passed_ = passed begun c.self.inside.word in
    c.checked16-check.ensures ∙ checked_whole 16 32773 c.self.inside.check16 c.self.inside.bytes c.self.inside.from c.self.inside.place whole c.self.inside.word le sum inside none ∙ sym (past-check16 passed_ _) ∙ ap (λ (m : Mark). m.check16) mark_is

pub returns : goal.returns
returns c =
    let inv = c.self.invariant in
    let begun = drop c.self.inside.from (take c.self.inside.place c.self.inside.bytes) in
    let long : length begun ≡ c.self.inside.place - c.self.inside.from = omega (arith, length-drop c.self.inside.from (take c.self.inside.place c.self.inside.bytes), length-take c.self.inside.place c.self.inside.bytes, inv.0, inv.1, inv.2, inv.4) in
    let fits = held_fits begun c.self.inside.word inv.3 in
    let mark_is = ap (λ (s : Store). s.mark) c.self.view_is in
    let whole = c.self.inside.place - (c.count-count.result + 7) / 8 in
    let le : c.self.inside.from ≤ whole = omega (arith, fits, long, inv.0, c.count-count.ensures.0) in
    let inside : c.self.inside.place ≤ length c.self.inside.bytes = omega (arith, inv.1, inv.2, inv.4) in
    let sum : whole + (length c.self.inside.word + 7) / 8 ≡ c.self.inside.place = omega (arith, fits, long, inv.0, c.count-count.ensures.0) in
    let r = c.count-count.result % 8 in
    let some : length c.self.inside.word % 8 ≡ r = omega (arith, c.count-count.ensures.0) in
    let passed_ = passed begun c.self.inside.word in
    c.bits_checked16.ensures ∙ ap (λ k. fed 16 32773 k (unsigned (8 - r) (get_or c.self.inside.bytes whole 0 / 2 ^ r))) c.checked16-check.ensures
    ∙ checked_part 16 32773 c.self.inside.check16 c.self.inside.bytes c.self.inside.from c.self.inside.place whole r c.self.inside.word le sum inside some (omega (arith, c.if-rest-eq0.false)) ∙ sym (past-check16 passed_ _) ∙ ap (λ (m : Mark). m.check16) mark_is
