use Rattle.std.proofs.Common.{rules, ◌≡◌, ◌<◌, ◌+◌, ◌*◌, ◌-◌, ◌/◌, ◌%◌, ◌^◌, ap, ◌∙◌, arith, bit_or}
use Rattle.flac_bits.specs.inner.Stretches.{top_bits}
use Rattle.flac_bits.proofs.Aheads.{filled_bits, filled_agrees}
use Rattle.flac_bits.proofs.word.Ahead.fill.Goals as goal

pub returns-clause-put : goal.returns-clause-put
returns-clause-put c =
    let w = c.args.self.now.word in
    let n = c.args.self.now.count in
    let more = 8 * (7 - n / 8) in
    let wide : c.args.eight < 2 ^ 64 = search rules in
    let sum : 56 + n % 8 ≡ n + more = omega (arith, c.requires.few) in
    ap (λ j. top_bits (bit_or w (c.args.eight / 2 ^ n)) j) sum ∙ filled_bits w n c.args.eight wide c.requires.few c.requires.next more (omega (arith, c.requires.few))

pub returns-clause-next : goal.returns-clause-next
returns-clause-next c = λ after is.
    let w = c.args.self.now.word in
    let n = c.args.self.now.count in
    let more = 8 * (7 - n / 8) in
    let wide : c.args.eight < 2 ^ 64 = search rules in
    let sum : 56 + n % 8 ≡ n + more = omega (arith, c.requires.few) in
    rw sum (filled_agrees w n c.args.eight wide c.requires.few c.requires.next more (omega (arith, c.requires.few)) after is)
