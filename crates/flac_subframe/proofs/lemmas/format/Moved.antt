-- A number moved up by half a range is within the range.
use Rattle.std.proofs.Common.{arith, ◌≡◌, ℕ, ◌+◌, ◌-◌, ◌*◌, ◌%◌, ◌^◌, ◌<◌, ◌≤◌, pos, negsuc, ℤ, FitsSigned, of_z, w64}
use Rattle.std.proofs.lemmas.Int.{ints}
use Rattle.flac_bits.specs.Signed.{FitsBits}

pub fits_when : (number : ℤ) (bits half moved : ℕ) → half ≡ 2 ^ (bits - 1) → half ≤ 2 ^ 62 → FitsSigned w64 number → moved ≡ (of_z w64 number + half) % 2 ^ 64 → moved < 2 * half → FitsBits bits number
fits_when (pos a) bits half moved e small range is h = record { low = omega (arith, ints, e); high = omega (arith, ints, e, range, is) }
fits_when (negsuc a) bits half moved e small range is h = record { low = omega (arith, ints, e, range, is); high = omega (arith, ints, e) }

pub when_fits : (number : ℤ) (bits half moved : ℕ) → half ≡ 2 ^ (bits - 1) → half ≤ 2 ^ 62 → FitsSigned w64 number → moved ≡ (of_z w64 number + half) % 2 ^ 64 → FitsBits bits number → moved < 2 * half
when_fits (pos a) bits half moved e small range is f = omega (arith, ints, e, range, is, f.high)
when_fits (negsuc a) bits half moved e small range is f = omega (arith, ints, e, range, is, f.low)
