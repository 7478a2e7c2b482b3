-- Numbers that are counted up to 2^64 - 1.
use Rattle.std.proofs.Common.{◌≡◌, ℕ, ◌+◌, arith}
use Rattle.flac_compare.specs.Compared.{counted}

pub counted_more : (a b : ℕ) → counted (counted a + b) ≡ counted (a + b)
counted_more a b = omega arith

pub counted_both : (a b : ℕ) → counted (counted a + counted b) ≡ counted (a + b)
counted_both a b = omega arith

pub counted_none : (a : ℕ) → counted a ≡ 0 → a ≡ 0
counted_none a e = omega (arith, e)
