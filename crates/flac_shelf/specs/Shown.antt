-- How the path of a file is printed in a line.
use Rattle.std.specs.Prelude.{◌≡◌, ◌<◌, ℕ, ◌+◌, ◌/◌, ◌%◌, Bool, false, ◌&&◌, ◌||◌, not, cond, nat_eq, nat_lt, List, [], ◌∷◌, flat_map, All}

-- a hexadecimal digit, in lower case
abbrev pub hex_digit : ℕ → ℕ
hex_digit n = cond (nat_lt n 10) (48 + n) (87 + n)

-- a control character of ASCII
abbrev pub is_control : ℕ → Bool
is_control b = nat_lt b 32 || nat_eq b 127

-- a byte that is printed as itself: no control character, and no backslash, which is 92
abbrev pub is_itself : ℕ → Bool
is_itself b = not (is_control b) && not (nat_eq b 92)

-- any other is printed as a backslash, an x and two digits
abbrev pub shown_byte : ℕ → List ℕ
shown_byte b = cond (is_itself b) (b ∷ []) (92 ∷ 120 ∷ hex_digit (b / 16) ∷ hex_digit (b % 16) ∷ [])

abbrev pub shown : (path : List ℕ) → List ℕ
shown path = flat_map shown_byte path

-- What is printed is the path of one file, and has no control character.
pub record PathsAreShown : Type 0 where
  pub one : (a b : List ℕ) → shown a ≡ shown b → a ≡ b
  pub printable : (path : List ℕ) → All (λ byte. byte < 256) path → All (λ byte. is_control byte ≡ false) (shown path)
