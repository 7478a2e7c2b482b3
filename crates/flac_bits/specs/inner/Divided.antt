-- Bytes divided by a multiple of a generator that has few terms.
use Rattle.std.specs.Prelude.{◌≡◌, ℕ, ◌+◌, ◌/◌, ◌%◌, ◌<◌, ◌≤◌, List, [], ◌∷◌, get_or, bit_xor}

-- the exclusive or of the numbers that stand these distances after a place
abbrev pub mixed_at : List ℕ → (ℕ → ℕ) → ℕ → ℕ
mixed_at [] f p = 0
mixed_at (e ∷ es) f p = bit_xor (f (p + e)) (mixed_at es f p)

-- the numbers of a list, and zeros after them
abbrev pub value_at : List ℕ → ℕ → ℕ
value_at q k = get_or q k 0

-- the exponents of the multiple for the CRC-32, in bytes, but for the highest, which is 300
abbrev pub lower_32 : List ℕ
lower_32 = 155 ∷ 117 ∷ 89 ∷ 0 ∷ []

-- those of the multiple for the CRC-8 and the CRC-16, whose highest is 285
abbrev pub lower_both : List ℕ
lower_both = 17 ∷ 5 ∷ 0 ∷ []

-- the bytes of a CRC-16
abbrev pub register_16 : ℕ → List ℕ
register_16 c = (c / 256) ∷ (c % 256) ∷ []

-- the bytes of a CRC-32
abbrev pub register_32 : ℕ → List ℕ
register_32 c = (c / 16777216) ∷ (c / 65536 % 256) ∷ (c / 256 % 256) ∷ (c % 256) ∷ []

-- after d zeros the first i bytes of the quotient of x by a multiple of degree d, and zeros after them
pub record Divided (d : ℕ) (es : List ℕ) (x : ℕ → ℕ) (q : List ℕ) (i : ℕ) : Type 0 where
  pub before : (k : ℕ) → k < d → value_at q k ≡ 0
  pub after : (k : ℕ) → d + i ≤ k → value_at q k ≡ 0
  pub each : (p : ℕ) → p < i → bit_xor (value_at q (p + d)) (mixed_at es (value_at q) p) ≡ x p

-- the bytes of a quotient from one index up to another follow from those before them
abbrev pub DividesOn : ℕ → List ℕ → List ℕ → (from to : ℕ) → List ℕ → List ℕ → Type 0
DividesOn d es bytes from to old new = (x : ℕ → ℕ) → ((p : ℕ) → from ≤ p → p < to → x p ≡ value_at bytes p) → Divided d es x old from → Divided d es x new to

-- the last d of the bytes, which begin at `from`, and what the quotient adds to them
abbrev pub IsRest : ℕ → List ℕ → List ℕ → ℕ → List ℕ → List ℕ → Type 0
IsRest d es bytes from q rest = (j : ℕ) → j < d → value_at rest j ≡ bit_xor (value_at bytes (j + from)) (mixed_at es (value_at q) (j + from))
