use Rattle.std.proofs.Common.{◌≡◌, ◌<◌, ◌≤◌, ◌++◌, [], List, Bool, length, take, drop, get_or, ap, ◌∙◌, arith}
use Rattle.flac_bits.specs.Bits.{unsigned, bits_of}
use Rattle.flac_bits.specs.Store.{Store}
use Rattle.flac_bits.proofs.Words.{length-unsigned}
use Rattle.flac_bits.proofs.Holding.{came_one, came_one_mark, came_one_left}
use Rattle.flac_bits.proofs.held.Held.begin_byte.Goals as goal

pub invariant_of-self : goal.invariant_of-self
invariant_of-self c =
    let inv = c.self.invariant in
    let room : c.self.inside.place < c.self.inside.end = omega (arith, inv.1, c.if-self.false) in
    let inside : c.self.inside.end ≤ length c.self.inside.bytes = omega (arith, inv.2, c.self.told) in
    let none : c.self.inside.word ≡ [] = ap (λ (s : Store). s.word) c.self.view_is ∙ c.requires in
    let is : c.of_byte-self-inside.result ≡ unsigned 8 (get_or c.self.inside.bytes c.self.inside.place 0) = c.of_byte-self-inside.ensures in
    (omega (arith, inv.0), omega (arith, room), inv.2, came_one _ _ _ _ _ inv.0 (omega (arith, room, inside)) none is inv.3, inv.4, inv.5, inv.6, inv.7)

pub returns-clause-more : goal.returns-clause-more
returns-clause-more c = λ yes.
    let word_is : c.self.inside.word ≡ c.args.self.now.word = ap (λ (s : Store). s.word) c.self.view_is in
    let bytes_is = ap (λ (s : Store). s.bytes) c.self.view_is in
    let mark_is = ap (λ (s : Store). s.mark) c.self.view_is in
    let inv = c.self.invariant in
    let room : c.self.inside.place < c.self.inside.end = omega (arith, inv.1, c.if-self.false) in
    let inside : c.self.inside.end ≤ length c.self.inside.bytes = omega (arith, inv.2, c.self.told) in
    let none : c.self.inside.word ≡ [] = ap (λ (s : Store). s.word) c.self.view_is ∙ c.requires in
    let is : c.of_byte-self-inside.result ≡ unsigned 8 (get_or c.self.inside.bytes c.self.inside.place 0) = c.of_byte-self-inside.ensures in
    ((came_one_left _ _ _ _ _ room inside none is ∙ ap (λ bs. bs ++ bits_of (drop c.self.inside.place (take c.self.inside.end c.self.inside.bytes))) word_is ∙ ap (λ bs. c.args.self.now.word ++ bits_of bs) bytes_is, came_one_mark _ _ _ _ _ _ inv.0 (omega (arith, room, inside)) none is inv.3 ∙ mark_is, ap (λ (s : Store). s.fence) c.self.view_is), ap (λ (bs : List Bool). length bs) is ∙ length-unsigned 8 (get_or c.self.inside.bytes c.self.inside.place 0))
