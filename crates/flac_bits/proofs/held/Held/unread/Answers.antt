use Rattle.std.proofs.Common.{◌≡◌, ◌-◌, ◌%◌, length, take, drop, ap, ◌∙◌, arith, refl}
use Rattle.std.proofs.lemmas.List.{length-drop, length-take}
use Rattle.flac_bits.specs.Store.{Store}
use Rattle.flac_bits.specs.State.{Mark}
use Rattle.flac_bits.proofs.Partly.{held_fits, unread_is}
use Rattle.flac_bits.proofs.held.Held.unread.Goals as goal

pub returns : goal.returns
returns c =
    let inv = c.self.invariant in
    let begun = drop c.self.inside.from (take c.self.inside.place c.self.inside.bytes) in
    let long : length begun ≡ c.self.inside.place - c.self.inside.from = omega (arith, length-drop c.self.inside.from (take c.self.inside.place c.self.inside.bytes), length-take c.self.inside.place c.self.inside.bytes, inv.0, inv.1, inv.2, inv.4) in
    let fits = held_fits begun c.self.inside.word inv.3 in
    let mark_is = ap (λ (s : Store). s.mark) c.self.view_is in
    (ap (λ k. k % 8) c.count.ensures.0 ∙ unread_is begun c.self.inside.word _ inv.3 refl ∙ ap (λ (m : Mark). m.unread) mark_is, omega arith)
