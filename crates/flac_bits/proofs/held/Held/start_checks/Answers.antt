use Rattle.std.proofs.Common.{◌≡◌, ◌-◌, ◌/◌, ◌%◌, length, take, drop, ap, ◌∙◌, arith, refl}
use Rattle.std.proofs.lemmas.List.{length-drop, length-take}
use Rattle.flac_bits.specs.Store.{Store}
use Rattle.flac_bits.specs.State.{Mark}
use Rattle.flac_bits.proofs.Partly.{held_fits, unread_is, restart_word, restart_tie, restarted}
use Rattle.flac_bits.proofs.held.Held.start_checks.Goals as goal

pub overflow_sub-self : goal.overflow_sub-self
overflow_sub-self c =
    let inv = c.self.invariant in
    let begun = drop c.self.inside.from (take c.self.inside.place c.self.inside.bytes) in
    let long : length begun ≡ c.self.inside.place - c.self.inside.from = omega (arith, length-drop c.self.inside.from (take c.self.inside.place c.self.inside.bytes), length-take c.self.inside.place c.self.inside.bytes, inv.0, inv.1, inv.2, inv.4) in
    let fits = held_fits begun c.self.inside.word inv.3 in
    let mark_is = ap (λ (s : Store). s.mark) c.self.view_is in
    omega (arith, fits, long, inv.0, c.count.ensures.0)

pub invariant_of-self : goal.invariant_of-self
invariant_of-self c =
    let inv = c.self.invariant in
    let begun = drop c.self.inside.from (take c.self.inside.place c.self.inside.bytes) in
    let long : length begun ≡ c.self.inside.place - c.self.inside.from = omega (arith, length-drop c.self.inside.from (take c.self.inside.place c.self.inside.bytes), length-take c.self.inside.place c.self.inside.bytes, inv.0, inv.1, inv.2, inv.4) in
    let fits = held_fits begun c.self.inside.word inv.3 in
    let mark_is = ap (λ (s : Store). s.mark) c.self.view_is in
    let whole : length c.self.inside.word % 8 ≡ 0 = unread_is begun c.self.inside.word _ inv.3 refl ∙ ap (λ (m : Mark). m.unread) mark_is ∙ c.requires in
    let q : c.count.result / 8 ≡ length c.self.inside.word / 8 = ap (λ k. k / 8) c.count.ensures.0 in
    let is = restart_word c.self.inside.bytes c.self.inside.from c.self.inside.place _ c.self.inside.word inv.0 (omega (arith, inv.1, inv.2, inv.4)) inv.3 whole q in
    (omega arith, inv.1, inv.2, restart_tie _ _ is, inv.4, inv.5, inv.6, inv.7)

pub returns : goal.returns
returns c =
    let inv = c.self.invariant in
    let begun = drop c.self.inside.from (take c.self.inside.place c.self.inside.bytes) in
    let long : length begun ≡ c.self.inside.place - c.self.inside.from = omega (arith, length-drop c.self.inside.from (take c.self.inside.place c.self.inside.bytes), length-take c.self.inside.place c.self.inside.bytes, inv.0, inv.1, inv.2, inv.4) in
    let fits = held_fits begun c.self.inside.word inv.3 in
    let mark_is = ap (λ (s : Store). s.mark) c.self.view_is in
    let q : c.count.result / 8 ≡ length c.self.inside.word / 8 = ap (λ k. k / 8) c.count.ensures.0 in
    restarted c.self.inside.bytes c.self.inside.from c.self.inside.place c.self.inside.end c.self.inside.before c.self.inside.check8 c.self.inside.check16 _ c.self.inside.word _ _ inv.0 (omega (arith, inv.1, inv.2, inv.4)) inv.3 c.requires q c.self.view_is
