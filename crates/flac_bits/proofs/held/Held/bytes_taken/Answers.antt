use Rattle.std.proofs.Common.{◌≡◌, ◌+◌, ◌-◌, ◌^◌, length, take, drop, min, sym, ap, ◌∙◌, arith, refl}
use Rattle.std.proofs.lemmas.List.{length-drop, length-take}
use Rattle.flac_bits.specs.Store.{Store}
use Rattle.flac_bits.specs.State.{Mark}
use Rattle.flac_bits.proofs.Partly.{held_fits, bytes_are}
use Rattle.flac_bits.proofs.held.Held.bytes_taken.Goals as goal

pub overflow_sub-self-inside : goal.overflow_sub-self-inside
overflow_sub-self-inside c =
    let inv = c.self.invariant in
    let begun = drop c.self.inside.from (take c.self.inside.place c.self.inside.bytes) in
    let long : length begun ≡ c.self.inside.place - c.self.inside.from = omega (arith, length-drop c.self.inside.from (take c.self.inside.place c.self.inside.bytes), length-take c.self.inside.place c.self.inside.bytes, inv.0, inv.1, inv.2, inv.4) in
    let fits = held_fits begun c.self.inside.word inv.3 in
    let mark_is = ap (λ (s : Store). s.mark) c.self.view_is in
    omega (arith, fits, long, inv.0, c.count.ensures.0)

pub returns : goal.returns
returns c =
    let inv = c.self.invariant in
    let begun = drop c.self.inside.from (take c.self.inside.place c.self.inside.bytes) in
    let long : length begun ≡ c.self.inside.place - c.self.inside.from = omega (arith, length-drop c.self.inside.from (take c.self.inside.place c.self.inside.bytes), length-take c.self.inside.place c.self.inside.bytes, inv.0, inv.1, inv.2, inv.4) in
    let fits = held_fits begun c.self.inside.word inv.3 in
    let mark_is = ap (λ (s : Store). s.mark) c.self.view_is in
    let b = bytes_are begun c.self.inside.word (min (c.self.inside.before + c.self.inside.from) (2 ^ 64 - 1)) _ inv.3 refl refl (omega arith) in
    let is = ap (λ (m : Mark). m.bytes) mark_is in
    omega (arith, c.saturating_add.ensures, c.count.ensures.0, long, fits, inv.0) ∙ sym b ∙ is
