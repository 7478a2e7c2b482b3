-- For proofs of restoration: the sums of products for the samples to come, of the samples so far (RFC 9639,
-- section 9.2.6).
use Rattle.std.specs.Prelude.{ℕ, zero, suc, ◌+◌, ◌-◌, ◌*◌, ◌^◌, ◌<◌, ◌≤◌, ◌≡◌, ℤ, pos, ◌+ℤ◌, ◌*ℤ◌, List, [], ◌∷◌, length, drop}
use Rattle.std.specs.Int.RustNames.{unsigned_abs}
use Rattle.flac_subframe.specs.format.Numbers.{sample_at}

-- the sum of products of the coefficients with the samples before index i, the nearest first, as many of them as there
-- are
unfoldable pub known : List ℤ → List ℤ → ℕ → ℤ
known [] s i = pos 0
known (c ∷ cs) s zero = pos 0
known (c ∷ cs) s (suc i) = (c *ℤ sample_at s i) +ℤ known cs s i

-- the sum at index k is that for the sample at index i + k
abbrev pub AreSums : List ℤ → List ℤ → List ℤ → ℕ → Type 0
AreSums cs s sums i = (k : ℕ) → k ≤ length cs → sample_at sums k ≡ known (drop k cs) s i

-- each is at most 2^46 for each coefficient from its index on
abbrev pub AreBelow : ℕ → List ℤ → Type 0
AreBelow order sums = (k : ℕ) → k ≤ order → unsigned_abs (sample_at sums k) ≤ 2 ^ 46 * (order - k)

-- a number of 64 bits holds it
abbrev pub IsHeld : ℤ → Type 0
IsHeld z = unsigned_abs z < 2 ^ 63

-- it still holds it if half the range of a sample is added
abbrev pub IsNear : ℤ → Type 0
IsNear z = unsigned_abs z + 2 ^ 32 < 2 ^ 63

-- the products of one more sample were added, and each sum moved to the index before
pub record Added (cs : List ℤ) (x : ℤ) (old new : List ℤ) : Type 0 where
  pub each : (k : ℕ) → k < length cs → sample_at new k ≡ sample_at old (k + 1) +ℤ (sample_at cs k *ℤ x)
  pub last : sample_at new (length cs) ≡ sample_at old (length cs)

-- the products of one more sample with n factors were added, and each sum moved to the index before
abbrev pub AreAdded : ℕ → List ℤ → ℤ → List ℤ → List ℤ → Type 0
AreAdded n factors x old new = (j : ℕ) → j < n → sample_at new j ≡ sample_at old (j + 1) +ℤ (sample_at factors j *ℤ x)
