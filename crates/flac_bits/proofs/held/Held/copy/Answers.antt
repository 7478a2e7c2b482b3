use Rattle.std.proofs.Common.{◌≡◌, ◌≤◌, ◌-◌, ◌+◌, ◌++◌, ℕ, List, length, take, drop, sym, ap, ◌∙◌, arith}
use Rattle.std.proofs.lemmas.List.{take_at, length-drop, length-take}
use Rattle.std.specs.List.{slice_range}
use Rattle.flac_bits.specs.Bits.{bits_of}
use Rattle.flac_bits.specs.State.{past}
use Rattle.flac_bits.specs.Store.{Store}
use Rattle.flac_bits.proofs.Back.{copied_tie, copied_mark, copied_left}
use Rattle.flac_bits.proofs.held.Held.copy.Goals as goal

pub invariant_of-self : goal.invariant_of-self
invariant_of-self c =
    let inv = c.self.invariant in
    let n = c.min-n.result in
    let none = ap (λ (s : Store). s.word) c.self.view_is ∙ c.requires in
    let within : c.self.inside.place + n ≤ c.self.inside.end = omega (arith, inv.1, c.min-n.ensures) in
    (omega (arith, inv.0), within, inv.2, copied_tie c.self.inside.bytes c.self.inside.from c.self.inside.place c.self.inside.end n c.self.inside.word inv.0 within (omega (arith, inv.2, inv.4)) none, inv.4, inv.5, inv.6, inv.7)

pub returns-clause-taken : goal.returns-clause-taken
returns-clause-taken c =
    let inv = c.self.invariant in
    let n = c.min-n.result in
    let none = ap (λ (s : Store). s.word) c.self.view_is ∙ c.requires in
    let within : c.self.inside.place + n ≤ c.self.inside.end = omega (arith, inv.1, c.min-n.ensures) in
    let inside : c.self.inside.end ≤ length c.self.inside.bytes = omega (arith, inv.2, inv.4) in
    let ys = slice_range c.self.inside.bytes c.self.inside.place (c.self.inside.place + n) in
    let put : take n (c.copy_from_slice.new.self ++ drop n c.args.out.now) ≡ ys =
    let long : length c.copy_from_slice.new.self ≡ n = omega (arith, ap (λ (xs : List ℕ). length xs) c.copy_from_slice.ensures.after, length-take (c.self.inside.place + n - c.self.inside.place) (drop c.self.inside.place c.self.inside.bytes), length-drop c.self.inside.place c.self.inside.bytes, within, inside) in
    take_at c.copy_from_slice.new.self (drop n c.args.out.now) n long ∙ c.copy_from_slice.ensures.after in
    rw put (
      sym (ap (λ (s : Store). s.word ++ bits_of s.bytes) c.self.view_is) ∙ copied_left c.self.inside.bytes c.self.inside.from c.self.inside.place c.self.inside.end n c.self.inside.word inv.0 within inside none,
      copied_mark c.self.inside.bytes c.self.inside.from c.self.inside.place c.self.inside.end n c.self.inside.word inv.0 within inside none _ ∙ ap (λ (s : Store). past (bits_of ys) s.mark) c.self.view_is,
      ap (λ (s : Store). s.fence) c.self.view_is,
    )
