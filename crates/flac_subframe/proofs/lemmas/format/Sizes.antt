-- How great sums are, and what places hold of them.
use mir.Syntax.{Width}
use mir.Val.{hbits}
use Rattle.std.proofs.Common.{◌≡◌, ℕ, zero, suc, ◌+◌, ◌^◌, ◌≤◌, ◌<◌, arith, ℤ, ◌+ℤ◌, List, [], ◌∷◌, to_z, of_z}
use Rattle.std.specs.Int.RustNames.{unsigned_abs}
use Rattle.std.specs.List.{sum_by}
use Rattle.std.proofs.lemmas.Int.{ints, to_z-of_z, fits_signed_from_abs}
use Rattle.std.proofs.lemmas.List.Sums.{sum_by-cons}
use Rattle.flac_subframe.specs.format.Numbers.{sample_at}

pub sum_abs : (a b : ℤ) (m n : ℕ) → unsigned_abs a ≤ m → unsigned_abs b ≤ n → unsigned_abs (a +ℤ b) ≤ m + n
sum_abs a b m n p q = omega (arith, ints, p, q)

-- what a place of a width holds of a sum
pub back_in : (w : Width) (z : ℤ) → unsigned_abs z < 2 ^ hbits w → to_z w (of_z w z) ≡ z
back_in w z h = to_z-of_z w z (fits_signed_from_abs w z h)

-- one coefficient, and all of them
pub one_below : (cs : List ℤ) (k : ℕ) → unsigned_abs (sample_at cs k) ≤ sum_by unsigned_abs cs
one_below [] k = omega arith
one_below (c ∷ cs) zero = rw (sum_by-cons unsigned_abs c cs) (omega arith)
one_below (c ∷ cs) (suc k) = rw (sum_by-cons unsigned_abs c cs) (omega (arith, one_below cs k))
