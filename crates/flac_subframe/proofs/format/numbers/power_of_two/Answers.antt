use Rattle.std.proofs.Common.{arith, ◌≡◌, ◌<◌, ◌≤◌, ◌^◌, ◌*◌, ◌%◌, ℕ, pos, to_z, w64}
use Rattle.std.proofs.lemmas.Int.{to_z_pos}
use Rattle.std.proofs.lemmas.Nat.{one_shl, pow_below}
use Rattle.flac_subframe.proofs.format.numbers.power_of_two.Goals as goal

power_is : (n : ℕ) → n ≤ 33 → to_z w64 (1 * 2 ^ n % 2 ^ 64) ≡ pos (2 ^ n)
power_is n few =
    let within : n < 64 = omega arith in
    rw (one_shl n 64 within) (to_z_pos w64 (2 ^ n) (pow_below n 63 (omega arith)))

pub returns : goal.returns
returns c = power_is c.args.exponent c.requires
