use Rattle.std.proofs.Common.{ℕ, ◌≡◌, ◌-◌, ◌/◌, ◌<◌, ◌^◌, length, sym, ap, ◌∙◌, bit_xor, arith, rules}
use Rattle.flac_bits.specs.inner.Divided.{value_at, lower_both, register_16, Divided}
use Rattle.flac_bits.proofs.Dividing.{crc8_of_rest, crc16_of_rest, untouched, after_list, LeavesRest}
use Rattle.flac_bits.proofs.crc_8_16_division.both_divided.Goals as goal

pub returns-clause-eight : goal.returns-clause-eight
returns-clause-eight c =
    let bytes = c.args.bytes.now in
    let cs = c.register_of-register.result in
    let x : ℕ → ℕ = λ p. bit_xor (value_at cs p) (value_at bytes p) in
    let two : length cs ≡ 2 = ap (λ ys. length ys) c.register_of-register.ensures in
    let none : Divided 285 lower_both x c.zeros-quotient.result 0 = untouched 285 lower_both x c.zeros-quotient.result c.zeros-quotient.ensures in
    let start = c.divide.ensures.divided x (λ p from to. c.first_two.ensures p to) none in
    let all : Divided 285 lower_both x c.divide-2.new.quotient (length bytes - 285) = c.divide-2.ensures.divided x (λ p from to. after_list cs bytes p (omega (arith, two, from))) start in
    let so : LeavesRest cs bytes c.divide-2.new.quotient c.put_rest.new.rest = (all, c.put_rest.ensures) in
    let small : c.both_by_eights-own.result.0 < 256 = search rules in
    ap (bit_xor c.both_by_eights-own.result.0) c.both_by_eights-left.ensures.eight
    ∙ crc8_of_rest c.args.checks.0 c.both_by_eights-own.result.0 (length bytes / 127) cs bytes c.divide-2.new.quotient c.put_rest.new.rest c.both_by_eights-own.ensures.eight small two (omega (arith, c.requires.whole)) (omega (arith, c.requires.enough)) so (search rules)

pub returns-clause-sixteen : goal.returns-clause-sixteen
returns-clause-sixteen c =
    let bytes = c.args.bytes.now in
    let cs = register_16 c.args.checks.1 in
    let x : ℕ → ℕ = λ p. bit_xor (value_at cs p) (value_at bytes p) in
    let fits : c.args.checks.1 < 2 ^ 16 = search rules in
    let none : Divided 285 lower_both x c.zeros-quotient.result 0 = untouched 285 lower_both x c.zeros-quotient.result c.zeros-quotient.ensures in
    let start = c.divide.ensures.divided x (λ p from to. rw c.register_of-register.ensures at c.first_two.ensures p to) none in
    let all : Divided 285 lower_both x c.divide-2.new.quotient (length bytes - 285) = c.divide-2.ensures.divided x (λ p from to. after_list cs bytes p from) start in
    let so : LeavesRest cs bytes c.divide-2.new.quotient c.put_rest.new.rest = (all, c.put_rest.ensures) in
    c.both_by_eights-left.ensures.sixteen ∙ sym (crc16_of_rest c.args.checks.1 bytes c.divide-2.new.quotient c.put_rest.new.rest fits (omega (arith, c.requires.enough)) so (search rules))
