-- The spelling of a coded number: the shortest of its forms.
use Rattle.std.specs.Prelude.{◌≡◌, ℕ, zero, suc, ◌+◌, ◌/◌, ◌%◌, ◌^◌, ◌<◌, Bool, cond, nat_lt, List, [], ◌++◌, Ok, ◌↔◌}
use Rattle.flac_bits.specs.Bits.{unsigned}
use Rattle.flac_bits.specs.State.{Mark, past}
use Rattle.flac_bits.specs.Layout.{run}
use Rattle.flac_bits.specs.Meaning.{Spells}
use Rattle.flac_bits.specs.Number.{number}

-- the n bytes after the lead byte: the bits 10, and six bits of the number
unfoldable pub six_bits : ℕ → ℕ → List Bool
six_bits zero v = []
six_bits (suc n) v = unsigned 8 (128 + v / 64 ^ n % 64) ++ six_bits n v

-- the lead byte, which says how many bytes follow and has the highest bits, and these bytes
abbrev pub in_bytes : ℕ → ℕ → ℕ → List Bool
in_bytes lead n v = unsigned 8 (lead + v / 64 ^ n) ++ six_bits n v

unfoldable pub number_spelling : ℕ → List Bool
number_spelling v =
    cond (nat_lt v (2 ^ 7)) (unsigned 8 v)
    (cond (nat_lt v (2 ^ 11)) (in_bytes 0xC0 1 v)
    (cond (nat_lt v (2 ^ 16)) (in_bytes 0xE0 2 v)
    (cond (nat_lt v (2 ^ 21)) (in_bytes 0xF0 3 v)
    (cond (nat_lt v (2 ^ 26)) (in_bytes 0xF8 4 v)
    (cond (nat_lt v (2 ^ 31)) (in_bytes 0xFC 5 v) (in_bytes 0xFE 6 v))))))

-- a number of at most 31 bits, or of at most 36 if max_bits allows them
abbrev pub IsNumber : ℕ → ℕ → Type 0
IsNumber max_bits v = v < cond (nat_lt 31 max_bits) (2 ^ 36) (2 ^ 31)

-- exactly the numbers within max_bits are spelled, each in one way
abbrev pub NumbersAreSpelled : Type 0
NumbersAreSpelled = (max_bits v : ℕ) (m : Mark) (text : List Bool) → Spells (number max_bits) m text v ↔ (IsNumber max_bits v × (text ≡ number_spelling v))

-- what is written is read again, whatever follows
abbrev pub NumbersAreReadAgain : Type 0
NumbersAreReadAgain = (max_bits v : ℕ) (m : Mark) (rest : List Bool) → IsNumber max_bits v
    → run (number max_bits) (record { left = number_spelling v ++ rest; mark = m }) ≡ Ok (v, record { left = rest; mark = past (number_spelling v) m })
