use Rattle.std.proofs.Common.{◌≡◌, ◌≤◌, ◌+◌, ◌++◌, length, take, drop, ap, ◌∙◌, arith}
use Rattle.flac_bits.specs.Bits.{unsigned, bits_of}
use Rattle.flac_bits.specs.Store.{Store}
use Rattle.flac_bits.specs.inner.Store.{four_at}
use Rattle.flac_bits.proofs.Holding.{came_four, came_four_mark, came_four_left}
use Rattle.flac_bits.proofs.held.Held.top_up.Goals as goal

pub invariant_of-self : goal.invariant_of-self
invariant_of-self c =
    let inv = c.self.invariant in
    let room : c.self.inside.place + 4 ≤ c.self.inside.end = omega (arith, inv.1, c.if-self-place-ge4.true) in
    let inside : c.self.inside.end ≤ length c.self.inside.bytes = omega (arith, inv.2, c.self.told) in
    let put : c.put.new.self ≡ c.self.inside.word ++ unsigned 32 c.four_bytes.result = c.put.ensures in
    let put_is : c.put.new.self ≡ c.self.inside.word ++ bits_of (four_at c.self.inside.bytes c.self.inside.place) = put ∙ ap (λ bs. c.self.inside.word ++ bs) c.four_bytes.ensures in
    (omega (arith, inv.0), room, inv.2, came_four _ _ _ _ _ inv.0 (omega (arith, room, inside)) put_is inv.3, inv.4, inv.5, inv.6, inv.7)

pub returns-then-self-place-ge4 : goal.returns-then-self-place-ge4
returns-then-self-place-ge4 c =
    let word_is : c.self.inside.word ≡ c.args.self.now.word = ap (λ (s : Store). s.word) c.self.view_is in
    let bytes_is = ap (λ (s : Store). s.bytes) c.self.view_is in
    let mark_is = ap (λ (s : Store). s.mark) c.self.view_is in
    let begun = drop c.self.inside.from (take c.self.inside.place c.self.inside.bytes) in
    let inv = c.self.invariant in
    let room : c.self.inside.place + 4 ≤ c.self.inside.end = omega (arith, inv.1, c.if-self-place-ge4.true) in
    let inside : c.self.inside.end ≤ length c.self.inside.bytes = omega (arith, inv.2, c.self.told) in
    let put : c.put.new.self ≡ c.self.inside.word ++ unsigned 32 c.four_bytes.result = c.put.ensures in
    let put_is : c.put.new.self ≡ c.self.inside.word ++ bits_of (four_at c.self.inside.bytes c.self.inside.place) = put ∙ ap (λ bs. c.self.inside.word ++ bs) c.four_bytes.ensures in
    (came_four_left _ _ _ _ _ room inside put_is ∙ ap (λ bs. bs ++ bits_of (drop c.self.inside.place (take c.self.inside.end c.self.inside.bytes))) word_is ∙ ap (λ bs. c.args.self.now.word ++ bits_of bs) bytes_is, came_four_mark _ _ _ _ _ _ inv.0 (omega (arith, room, inside)) put_is inv.3 ∙ mark_is, ap (λ (s : Store). s.fence) c.self.view_is)
