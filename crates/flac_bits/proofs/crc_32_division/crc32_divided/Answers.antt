use Rattle.std.proofs.Common.{ℕ, ◌-◌, ◌<◌, ◌^◌, length, sym, ◌∙◌, bit_xor, arith, rules}
use Rattle.flac_bits.specs.inner.Divided.{value_at, lower_32, register_32, Divided}
use Rattle.flac_bits.proofs.Dividing.{crc32_of_rest, untouched, after_register}
use Rattle.flac_bits.proofs.crc_32_division.crc32_divided.Goals as goal

pub returns : goal.returns
returns c =
    let check = c.args.check in
    let bytes = c.args.bytes.now in
    let end = length bytes - 300 in
    let fits : check < 2 ^ 32 = search rules in
    let x : ℕ → ℕ = λ p. bit_xor (value_at (register_32 check) p) (value_at bytes p) in
    let none : Divided 300 lower_32 x c.zeros-quotient.result 0 = untouched 300 lower_32 x c.zeros-quotient.result c.zeros-quotient.ensures in
    let four = c.divide.ensures.divided x (λ p from to. c.first_four.ensures p to) none in
    let all = c.divide-2.ensures.divided x (λ p from to. after_register check bytes p from) four in
    c.crc32_by_eights.ensures ∙ sym (crc32_of_rest check bytes c.divide-2.new.quotient c.put_rest.new.rest fits (omega (arith, c.requires.enough)) all (search rules) c.put_rest.ensures)
