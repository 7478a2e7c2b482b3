use Rattle.std.proofs.Common.{◌≡◌, ◌<◌, ◌≤◌, ◌+ℤ◌, ◌-ℤ◌, ℕ, ℤ, SFits, to_z, of_z, w64, arith}
use Rattle.std.specs.Int.{int_shr}
use Rattle.std.proofs.lemmas.Int.{ints, to_z-of_z}
use Rattle.flac_bits.specs.Signed.{FitsBits}
use Rattle.flac_frame.specs.Stereo.{left_of, right_of}
use Rattle.flac_frame.proofs.Assigned.{apart_code}
use Rattle.flac_frame.proofs.Joins.{half_low, half_high}
use Rattle.flac_frame.proofs.stereo.join_samples.Goals as goal

-- what is computed fits 64 bits
less_fits : (x y : ℤ) → FitsBits 34 x → FitsBits 34 y → SFits w64 (x -ℤ y)
less_fits x y f g = omega (arith, ints, f.low, f.high, g.low, g.high)

more_fits : (x y : ℤ) → FitsBits 34 x → FitsBits 34 y → SFits w64 (x +ℤ y)
more_fits x y f g = omega (arith, ints, f.low, f.high, g.low, g.high)

shift_fits : (y : ℤ) → FitsBits 34 y → SFits w64 (int_shr y 1)
shift_fits y g = omega (arith, ints, g.low, g.high, half_low y, half_high y)

half_fits : (x y : ℤ) → FitsBits 34 x → FitsBits 34 y → SFits w64 (x -ℤ int_shr y 1)
half_fits x y f g = omega (arith, ints, f.low, f.high, g.low, g.high, half_low y, half_high y)

both_fits : (x y : ℤ) → FitsBits 34 x → FitsBits 34 y → SFits w64 (x -ℤ int_shr y 1 +ℤ y)
both_fits x y f g = omega (arith, ints, f.low, f.high, g.low, g.high, half_low y, half_high y)

-- and is computed as it is defined
less_is : (x y : ℤ) → SFits w64 x → SFits w64 y → SFits w64 (x -ℤ y) → to_z w64 (of_z w64 (to_z w64 (of_z w64 x) -ℤ to_z w64 (of_z w64 y))) ≡ x -ℤ y
less_is x y f g h = rw (to_z-of_z w64 x f, to_z-of_z w64 y g) (to_z-of_z w64 (x -ℤ y) h)

more_is : (x y : ℤ) → SFits w64 x → SFits w64 y → SFits w64 (x +ℤ y) → to_z w64 (of_z w64 (to_z w64 (of_z w64 x) +ℤ to_z w64 (of_z w64 y))) ≡ x +ℤ y
more_is x y f g h = rw (to_z-of_z w64 x f, to_z-of_z w64 y g) (to_z-of_z w64 (x +ℤ y) h)

half_is : (x y : ℤ) → SFits w64 x → SFits w64 y → SFits w64 (int_shr y 1) → SFits w64 (x -ℤ int_shr y 1) → to_z w64 (of_z w64 (to_z w64 (of_z w64 x) -ℤ to_z w64 (of_z w64 (int_shr (to_z w64 (of_z w64 y)) 1)))) ≡ x -ℤ int_shr y 1
half_is x y f g k h = rw (to_z-of_z w64 x f, to_z-of_z w64 y g, to_z-of_z w64 (int_shr y 1) k) (to_z-of_z w64 (x -ℤ int_shr y 1) h)

-- a code that does not join is no code that does
never : (code : ℕ) → code ≤ 7 → 7 < code → ⊥
never code low high = omega arith

pub overflow_sub-result : goal.overflow_sub-result
overflow_sub-result c = rw (to_z-of_z w64 c.args.first c.ranges.first, to_z-of_z w64 c.args.second c.ranges.second) (less_fits c.args.first c.args.second c.requires.first c.requires.second)

pub overflow_add-result : goal.overflow_add-result
overflow_add-result c = rw (to_z-of_z w64 c.args.first c.ranges.first, to_z-of_z w64 c.args.second c.ranges.second) (more_fits c.args.first c.args.second c.requires.first c.requires.second)

pub overflow_sub-right : goal.overflow_sub-right
overflow_sub-right c = rw (to_z-of_z w64 c.args.first c.ranges.first, to_z-of_z w64 c.args.second c.ranges.second, to_z-of_z w64 (int_shr c.args.second 1) (shift_fits c.args.second c.requires.second)) (half_fits c.args.first c.args.second c.requires.first c.requires.second)

pub overflow_add-result-in-MidSide : goal.overflow_add-result-in-MidSide
overflow_add-result-in-MidSide c =
    let h = half_is c.args.first c.args.second c.ranges.first c.ranges.second (shift_fits c.args.second c.requires.second) (half_fits c.args.first c.args.second c.requires.first c.requires.second) in
    rw (h, to_z-of_z w64 c.args.second c.ranges.second) (both_fits c.args.first c.args.second c.requires.first c.requires.second)

pub returns-in-Independent : goal.returns-in-Independent
returns-in-Independent c = absurd (never _ (apart_code c.args.assignment _ c.in-Independent.is c.requires.valid) c.requires.joined)

pub returns-in-LeftSide-clause-left : goal.returns-in-LeftSide-clause-left
unfolding left_of
returns-in-LeftSide-clause-left c = rw c.in-LeftSide.is (to_z-of_z w64 c.args.first c.ranges.first)

pub returns-in-LeftSide-clause-right : goal.returns-in-LeftSide-clause-right
unfolding right_of
returns-in-LeftSide-clause-right c = rw c.in-LeftSide.is (less_is c.args.first c.args.second c.ranges.first c.ranges.second (less_fits c.args.first c.args.second c.requires.first c.requires.second))

pub returns-in-SideRight-clause-left : goal.returns-in-SideRight-clause-left
unfolding left_of
returns-in-SideRight-clause-left c = rw c.in-SideRight.is (more_is c.args.first c.args.second c.ranges.first c.ranges.second (more_fits c.args.first c.args.second c.requires.first c.requires.second))

pub returns-in-SideRight-clause-right : goal.returns-in-SideRight-clause-right
unfolding right_of
returns-in-SideRight-clause-right c = rw c.in-SideRight.is (to_z-of_z w64 c.args.second c.ranges.second)

pub returns-in-MidSide-clause-left : goal.returns-in-MidSide-clause-left
unfolding left_of
returns-in-MidSide-clause-left c =
    let h = half_is c.args.first c.args.second c.ranges.first c.ranges.second (shift_fits c.args.second c.requires.second) (half_fits c.args.first c.args.second c.requires.first c.requires.second) in
    rw (c.in-MidSide.is, h, to_z-of_z w64 c.args.second c.ranges.second) (to_z-of_z w64 (c.args.first -ℤ int_shr c.args.second 1 +ℤ c.args.second) (both_fits c.args.first c.args.second c.requires.first c.requires.second))

pub returns-in-MidSide-clause-right : goal.returns-in-MidSide-clause-right
unfolding right_of
returns-in-MidSide-clause-right c = rw c.in-MidSide.is (half_is c.args.first c.args.second c.ranges.first c.ranges.second (shift_fits c.args.second c.requires.second) (half_fits c.args.first c.args.second c.requires.first c.requires.second))
