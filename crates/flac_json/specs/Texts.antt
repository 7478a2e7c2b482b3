-- How JSON writes a text (RFC 8259, section 7).
use Rattle.std.specs.Prelude.{◌/◌, ◌%◌, ◌+◌, ◌||◌, ℕ, Bool, cond, nat_eq, nat_lt, List, [], ◌∷◌, ◌++◌, codes}

-- A byte that is not written as itself: a control character, the quotation mark or the backslash. All others are, so a
-- text in UTF-8 stays one.
abbrev pub is_special : ℕ → Bool
is_special byte = nat_lt byte 32 || (nat_eq byte 34 || nat_eq byte 92)

-- a hexadecimal digit, in lower case
abbrev pub hex_digit : ℕ → ℕ
hex_digit n = cond (nat_lt n 10) (48 + n) (87 + n)

abbrev pub hex_digits : ℕ → List ℕ
hex_digits byte = hex_digit (byte / 16) ∷ hex_digit (byte % 16) ∷ []

-- it is written as `\u00` and its two digits
abbrev pub escape : ℕ → List ℕ
escape byte = cond (is_special byte) (codes "\\u00" ++ hex_digits byte) (byte ∷ [])

abbrev pub escapes : List ℕ → List ℕ
escapes [] = []
escapes (byte ∷ bytes) = escape byte ++ escapes bytes

-- a text between quotation marks
abbrev pub quoted : List ℕ → List ℕ
quoted text = codes "\"" ++ (escapes text ++ codes "\"")

-- the hexadecimal digits of bytes
abbrev pub all_digits : List ℕ → List ℕ
all_digits [] = []
all_digits (byte ∷ bytes) = hex_digits byte ++ all_digits bytes
