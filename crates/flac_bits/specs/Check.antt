-- The check of a bit list: the remainder of its polynomial times x^w by x^w + g.
use Rattle.std.specs.Prelude.{ℕ, zero, suc, ◌-◌, ◌*◌, ◌%◌, ◌^◌, ◌≡◌, Bool, cond, nat_eq, List, [], ◌∷◌, length, bit_xor}
use Rattle.std.specs.Int.{bit_at}
use Rattle.flac_bits.specs.State.{feed, Mark, past}

-- x times a remainder, reduced
abbrev pub shifted : ℕ → ℕ → ℕ → ℕ
shifted w g c = cond (nat_eq (bit_at c (w - 1)) 1) (bit_xor (2 * c % 2 ^ w) g) (2 * c % 2 ^ w)

-- x^(w + j), reduced
abbrev pub power : ℕ → ℕ → ℕ → ℕ
power w g zero = g
power w g (suc j) = shifted w g (power w g j)

-- the exclusive or of the powers of all set bits, counted from the last bit
abbrev pub remainder : ℕ → ℕ → List Bool → ℕ
remainder w g [] = 0
remainder w g (b ∷ bs) = bit_xor (cond b (power w g (length bs)) 0) (remainder w g bs)

-- the remainder after more bits
unfoldable pub fed : ℕ → ℕ → ℕ → List Bool → ℕ
fed w g c [] = c
fed w g c (b ∷ bs) = fed w g (feed w g c b) bs

-- if both checks of a mark are 0, those after these bits are the remainders of the bits (RFC 9639, sections 9.1.8 and
-- 9.3)
abbrev pub ChecksAreRemainders : Type 0
ChecksAreRemainders = (bits : List Bool) (m : Mark) → m.check8 ≡ 0 → m.check16 ≡ 0 → ((past bits m).check8 ≡ remainder 8 7 bits) × ((past bits m).check16 ≡ remainder 16 32773 bits)
