-- For proofs of restoration: two sums of products in one number of 64 bits.
use Rattle.std.specs.Prelude.{ℕ, ◌≡◌, ◌<◌, ◌+◌, ◌^◌, ℤ, pos, ◌+ℤ◌, ◌*ℤ◌, List}
use Rattle.std.specs.Int.{int_shr}
use Rattle.std.specs.Int.RustNames.{unsigned_abs}
use Rattle.flac_subframe.specs.format.Numbers.{sample_at}

-- a sum in the highest 32 bits, and in the lowest another, to which 2^31 is added so that it is not negative
abbrev pub packed : ℤ → ℤ → ℤ
packed high low = (pos (2 ^ 32) *ℤ high) +ℤ (low +ℤ pos (2 ^ 31))

-- the sample of a residual value, from a word whose first sum is shifted
abbrev pub IsSampleOf : ℤ → ℕ → ℤ → ℤ → Type 0
IsSampleOf word shift residual sample = (high low : ℤ) → unsigned_abs low < 2 ^ 31 → word ≡ packed high low → sample ≡ int_shr high shift +ℤ residual

-- the factor that a sample is multiplied by for both
abbrev pub paired : ℤ → ℤ → ℤ
paired high low = (pos (2 ^ 32) *ℤ high) +ℤ low

-- the factors for as many words: two coefficients each, of which one is that many places after the other
abbrev pub ArePaired : ℕ → List ℤ → List ℤ → Type 0
ArePaired half cs factors = (j : ℕ) → j < half → sample_at factors j ≡ paired (sample_at cs j) (sample_at cs (j + half))
