-- What the fixed predictors say, as the code works it out in numbers of a width.
use mir.Syntax.{Width}
use mir.Val.{hbits}
use Rattle.std.proofs.Common.{◌≡◌, ◌∙◌, sym, arith, to_z, of_z, FitsSigned, ℕ, ◌*◌, ◌^◌, ◌≤◌, ◌<◌, ℤ, pos, ◌+ℤ◌, ◌-ℤ◌, ◌*ℤ◌}
use Rattle.std.specs.Int.RustNames.{unsigned_abs}
use Rattle.std.proofs.lemmas.Int.{ints, fits_signed_from_abs}
use Rattle.flac_subframe.proofs.lemmas.format.Sizes.{back_in}

-- a number as a place of the width holds it
abbrev pub stored : Width → ℤ → ℤ
stored w z = to_z w (of_z w z)

module _ (w : Width) (m : ℕ) (room : 16 * m < 2 ^ hbits w) where
  pub kept : (z : ℤ) → unsigned_abs z ≤ 15 * m → stored w z ≡ z
  kept z small = back_in w z (omega (arith, room, small))

  fits : (z : ℤ) → unsigned_abs z ≤ 15 * m → FitsSigned w z
  fits z small = fits_signed_from_abs w z (omega (arith, room, small))

  one : (z : ℤ) → unsigned_abs z ≤ m → stored w z ≡ z
  one z small = kept z (omega (arith, small))

  -- of order 2
  module _ (a b : ℤ) (fa : unsigned_abs a ≤ m) (fb : unsigned_abs b ≤ m) where
    double : unsigned_abs (pos 2 *ℤ a) ≤ 15 * m
    double = omega (arith, ints, fa)

    second : unsigned_abs ((pos 2 *ℤ a) -ℤ b) ≤ 15 * m
    second = omega (arith, ints, fa, fb)

    pub double_fits : FitsSigned w (pos 2 *ℤ stored w a)
    double_fits = rw (one a fa) (fits (pos 2 *ℤ a) double)

    pub second_fits : FitsSigned w (stored w (pos 2 *ℤ stored w a) -ℤ stored w b)
    second_fits = rw (one a fa, one b fb, kept (pos 2 *ℤ a) double) (fits ((pos 2 *ℤ a) -ℤ b) second)

    pub second_is : stored w (stored w (pos 2 *ℤ stored w a) -ℤ stored w b) ≡ (pos 2 *ℤ a) -ℤ b
    second_is = rw (one a fa, one b fb, kept (pos 2 *ℤ a) double) (kept ((pos 2 *ℤ a) -ℤ b) second)

    pub second_small : unsigned_abs (stored w (stored w (pos 2 *ℤ stored w a) -ℤ stored w b)) ≤ 15 * m
    second_small = rw second_is second

    -- of order 3
    gap : unsigned_abs (a -ℤ b) ≤ 15 * m
    gap = omega (arith, ints, fa, fb)

    triple : unsigned_abs (pos 3 *ℤ (a -ℤ b)) ≤ 15 * m
    triple = omega (arith, ints, fa, fb)

    pub gap_fits : FitsSigned w (stored w a -ℤ stored w b)
    gap_fits = rw (one a fa, one b fb) (fits (a -ℤ b) gap)

    pub triple_fits : FitsSigned w (pos 3 *ℤ stored w (stored w a -ℤ stored w b))
    triple_fits = rw (one a fa, one b fb, kept (a -ℤ b) gap) (fits (pos 3 *ℤ (a -ℤ b)) triple)

    module _ (c : ℤ) (fc : unsigned_abs c ≤ m) where
      third : unsigned_abs ((pos 3 *ℤ (a -ℤ b)) +ℤ c) ≤ 15 * m
      third = omega (arith, ints, fa, fb, fc)

      pub third_fits : FitsSigned w (stored w (pos 3 *ℤ stored w (stored w a -ℤ stored w b)) +ℤ stored w c)
      third_fits = rw (one a fa, one b fb, one c fc, kept (a -ℤ b) gap, kept (pos 3 *ℤ (a -ℤ b)) triple) (fits ((pos 3 *ℤ (a -ℤ b)) +ℤ c) third)

      pub third_is : stored w (stored w (pos 3 *ℤ stored w (stored w a -ℤ stored w b)) +ℤ stored w c) ≡ (pos 3 *ℤ (a -ℤ b)) +ℤ c
      third_is = rw (one a fa, one b fb, one c fc, kept (a -ℤ b) gap, kept (pos 3 *ℤ (a -ℤ b)) triple) (kept ((pos 3 *ℤ (a -ℤ b)) +ℤ c) third)

      pub third_small : unsigned_abs (stored w (stored w (pos 3 *ℤ stored w (stored w a -ℤ stored w b)) +ℤ stored w c)) ≤ 15 * m
      third_small = rw third_is third

      -- of order 4, as numbers of 64 bits have it
      both : unsigned_abs (a +ℤ c) ≤ 15 * m
      both = omega (arith, ints, fa, fc)

      four_times : unsigned_abs (pos 4 *ℤ (a +ℤ c)) ≤ 15 * m
      four_times = omega (arith, ints, fa, fc)

      six_times : unsigned_abs (pos 6 *ℤ b) ≤ 15 * m
      six_times = omega (arith, ints, fb)

      less : unsigned_abs ((pos 4 *ℤ (a +ℤ c)) -ℤ (pos 6 *ℤ b)) ≤ 15 * m
      less = omega (arith, ints, fa, fb, fc)

      pub both_fits : FitsSigned w (stored w a +ℤ stored w c)
      both_fits = rw (one a fa, one c fc) (fits (a +ℤ c) both)

      pub four_times_fits : FitsSigned w (pos 4 *ℤ stored w (stored w a +ℤ stored w c))
      four_times_fits = rw (one a fa, one c fc, kept (a +ℤ c) both) (fits (pos 4 *ℤ (a +ℤ c)) four_times)

      pub six_times_fits : FitsSigned w (pos 6 *ℤ stored w b)
      six_times_fits = rw (one b fb) (fits (pos 6 *ℤ b) six_times)

      pub less_fits : FitsSigned w (stored w (pos 4 *ℤ stored w (stored w a +ℤ stored w c)) -ℤ stored w (pos 6 *ℤ stored w b))
      less_fits =
          rw (one a fa, one b fb, one c fc, kept (a +ℤ c) both, kept (pos 4 *ℤ (a +ℤ c)) four_times, kept (pos 6 *ℤ b) six_times)
          (fits ((pos 4 *ℤ (a +ℤ c)) -ℤ (pos 6 *ℤ b)) less)

      module _ (d : ℤ) (fd : unsigned_abs d ≤ m) where
        fourth : unsigned_abs (((pos 4 *ℤ (a +ℤ c)) -ℤ (pos 6 *ℤ b)) -ℤ d) ≤ 15 * m
        fourth = omega (arith, ints, fa, fb, fc, fd)

        pub fourth_fits : FitsSigned w (stored w (stored w (pos 4 *ℤ stored w (stored w a +ℤ stored w c)) -ℤ stored w (pos 6 *ℤ stored w b)) -ℤ stored w d)
        fourth_fits =
            rw (one a fa, one b fb, one c fc, one d fd, kept (a +ℤ c) both, kept (pos 4 *ℤ (a +ℤ c)) four_times, kept (pos 6 *ℤ b) six_times, kept ((pos 4 *ℤ (a +ℤ c)) -ℤ (pos 6 *ℤ b)) less)
            (fits (((pos 4 *ℤ (a +ℤ c)) -ℤ (pos 6 *ℤ b)) -ℤ d) fourth)

        pub fourth_is : stored w (stored w (stored w (pos 4 *ℤ stored w (stored w a +ℤ stored w c)) -ℤ stored w (pos 6 *ℤ stored w b)) -ℤ stored w d) ≡ ((pos 4 *ℤ (a +ℤ c)) -ℤ (pos 6 *ℤ b)) -ℤ d
        fourth_is =
            rw (one a fa, one b fb, one c fc, one d fd, kept (a +ℤ c) both, kept (pos 4 *ℤ (a +ℤ c)) four_times, kept (pos 6 *ℤ b) six_times, kept ((pos 4 *ℤ (a +ℤ c)) -ℤ (pos 6 *ℤ b)) less)
            (kept (((pos 4 *ℤ (a +ℤ c)) -ℤ (pos 6 *ℤ b)) -ℤ d) fourth)

        pub fourth_small : unsigned_abs (stored w (stored w (stored w (pos 4 *ℤ stored w (stored w a +ℤ stored w c)) -ℤ stored w (pos 6 *ℤ stored w b)) -ℤ stored w d)) ≤ 15 * m
        fourth_small = rw fourth_is fourth

      -- of order 4, as numbers of 32 bits have it
      nearest : unsigned_abs ((a +ℤ c) -ℤ b) ≤ 15 * m
      nearest = omega (arith, ints, fa, fb, fc)

      nearest_four : unsigned_abs (pos 4 *ℤ ((a +ℤ c) -ℤ b)) ≤ 15 * m
      nearest_four = omega (arith, ints, fa, fb, fc)

      two_times : unsigned_abs (pos 2 *ℤ b) ≤ 15 * m
      two_times = omega (arith, ints, fb)

      pub nearest_fits : FitsSigned w (stored w (stored w a +ℤ stored w c) -ℤ stored w b)
      nearest_fits = rw (one a fa, one b fb, one c fc, kept (a +ℤ c) both) (fits ((a +ℤ c) -ℤ b) nearest)

      pub nearest_four_fits : FitsSigned w (pos 4 *ℤ stored w (stored w (stored w a +ℤ stored w c) -ℤ stored w b))
      nearest_four_fits = rw (one a fa, one b fb, one c fc, kept (a +ℤ c) both, kept ((a +ℤ c) -ℤ b) nearest) (fits (pos 4 *ℤ ((a +ℤ c) -ℤ b)) nearest_four)

      pub two_times_fits : FitsSigned w (pos 2 *ℤ stored w b)
      two_times_fits = rw (one b fb) (fits (pos 2 *ℤ b) two_times)

      module _ (d : ℤ) (fd : unsigned_abs d ≤ m) where
        farthest : unsigned_abs ((pos 2 *ℤ b) +ℤ d) ≤ 15 * m
        farthest = omega (arith, ints, fb, fd)

        apart : unsigned_abs ((pos 4 *ℤ ((a +ℤ c) -ℤ b)) -ℤ ((pos 2 *ℤ b) +ℤ d)) ≤ 15 * m
        apart = omega (arith, ints, fa, fb, fc, fd)

        same : (pos 4 *ℤ ((a +ℤ c) -ℤ b)) -ℤ ((pos 2 *ℤ b) +ℤ d) ≡ ((pos 4 *ℤ (a +ℤ c)) -ℤ (pos 6 *ℤ b)) -ℤ d
        same = omega (arith, ints)

        pub farthest_fits : FitsSigned w (stored w (pos 2 *ℤ stored w b) +ℤ stored w d)
        farthest_fits = rw (one b fb, one d fd, kept (pos 2 *ℤ b) two_times) (fits ((pos 2 *ℤ b) +ℤ d) farthest)

        pub apart_fits : FitsSigned w (stored w (pos 4 *ℤ stored w (stored w (stored w a +ℤ stored w c) -ℤ stored w b)) -ℤ stored w (stored w (pos 2 *ℤ stored w b) +ℤ stored w d))
        apart_fits =
            rw (one a fa, one b fb, one c fc, one d fd, kept (a +ℤ c) both, kept ((a +ℤ c) -ℤ b) nearest, kept (pos 4 *ℤ ((a +ℤ c) -ℤ b)) nearest_four, kept (pos 2 *ℤ b) two_times, kept ((pos 2 *ℤ b) +ℤ d) farthest)
            (fits ((pos 4 *ℤ ((a +ℤ c) -ℤ b)) -ℤ ((pos 2 *ℤ b) +ℤ d)) apart)

        pub apart_is : stored w (stored w (pos 4 *ℤ stored w (stored w (stored w a +ℤ stored w c) -ℤ stored w b)) -ℤ stored w (stored w (pos 2 *ℤ stored w b) +ℤ stored w d)) ≡ ((pos 4 *ℤ (a +ℤ c)) -ℤ (pos 6 *ℤ b)) -ℤ d
        apart_is =
            rw (one a fa, one b fb, one c fc, one d fd, kept (a +ℤ c) both, kept ((a +ℤ c) -ℤ b) nearest, kept (pos 4 *ℤ ((a +ℤ c) -ℤ b)) nearest_four, kept (pos 2 *ℤ b) two_times, kept ((pos 2 *ℤ b) +ℤ d) farthest)
            (kept ((pos 4 *ℤ ((a +ℤ c) -ℤ b)) -ℤ ((pos 2 *ℤ b) +ℤ d)) apart ∙ same)

        pub apart_small : unsigned_abs (stored w (stored w (pos 4 *ℤ stored w (stored w (stored w a +ℤ stored w c) -ℤ stored w b)) -ℤ stored w (stored w (pos 2 *ℤ stored w b) +ℤ stored w d))) ≤ 15 * m
        apart_small = rw (apart_is ∙ sym same) apart
