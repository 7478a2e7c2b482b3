-- Signed numbers that fit, as a test, and a list of numbers read at an index.
use Rattle.std.specs.Prelude.{ℕ, ℤ, pos, negsuc, ◌-◌, ◌^◌, Bool, true, false, cond, nat_lt, List, [], ◌∷◌, slice_index_or}

-- z is a two's complement number of n bits
abbrev pub fits : ℕ → ℤ → Bool
fits n (pos a) = nat_lt a (2 ^ (n - 1))
fits n (negsuc a) = nat_lt a (2 ^ (n - 1))

abbrev pub all_fit : ℕ → List ℤ → Bool
all_fit n [] = true
all_fit n (z ∷ zs) = cond (fits n z) (all_fit n zs) false

-- the sample at an index, 0 past the end
abbrev pub sample_at : List ℤ → ℕ → ℤ
sample_at s i = slice_index_or s i (pos 0)
