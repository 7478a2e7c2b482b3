-- Comments that are read from lines (RFC 9639, section 8.6), a line each, as Exported.antt writes them.
use Rattle.std.specs.Prelude.{◌≡◌, ℕ, ◌+◌, ◌-◌, ◌*◌, ◌<◌, ◌==◌, Bool, true, false, ◌&&◌, ◌||◌, not, cond, nat_lt, nat_le, List, [], ◌∷◌, ◌++◌, length, take, get_or, suc, zero, All, Option, Some, None, option_and_then, Result, Ok, Err}
use Rattle.std.specs.List.{slice_split}
use Rattle.flac_edit.specs.Exported.{comment_lines}
use Rattle.flac_edit.specs.declared.lines.LinesFault.{LinesFault}
use Rattle.flac_edit.specs.declared.lines.LinesFault.TheVariants as fault

-- ---- the bytes of a line

-- b is one of the bytes from first to last
abbrev pub is_from : (first last : ℕ) → ℕ → Bool
is_from first last b = nat_le first b && nat_le b last

-- the value of a hexadecimal digit, whose letters may be small or large; 16 of any other byte
abbrev pub digit_value : ℕ → ℕ
digit_value b = cond (is_from 48 57 b) (b - 48) (cond (is_from 97 102 b) (b - 87) (cond (is_from 65 70 b) (b - 55) 16))

-- the byte that a backslash, an x and two digits at the beginning of a text are; none if it begins otherwise
abbrev pub escape_at : (text : List ℕ) → Option ℕ
escape_at text = cond (nat_lt 3 (length text) && (get_or text 0 0 == 92 && (get_or text 1 0 == 120 && (nat_lt (digit_value (get_or text 2 0)) 16 && nat_lt (digit_value (get_or text 3 0)) 16)))) (Some (16 * digit_value (get_or text 2 0) + digit_value (get_or text 3 0))) None

-- a byte that may be itself: not below 20 (hexadecimal), not 7F, no backslash
abbrev pub is_itself : ℕ → Bool
is_itself b = nat_le 32 b && (not (b == 92) && not (b == 127))

-- these bytes, and then those of a text after its first `skip`, which are of an escape; none if one is neither itself nor
-- of an escape
unfoldable pub bytes_after : List ℕ → (skip : ℕ) → (text : List ℕ) → Option (List ℕ)
bytes_after bytes skip [] = Some bytes
bytes_after bytes (suc skip) (b ∷ text) = bytes_after bytes skip text
bytes_after bytes zero (b ∷ text) = elim (escape_at (b ∷ text)) [ Some value ↦ bytes_after (bytes ++ value ∷ []) 3 text | None ↦ cond (is_itself b) (bytes_after (bytes ++ b ∷ []) 0 text) None ]

-- the bytes of a line, which may be escaped
abbrev pub unescaped : (line : List ℕ) → Option (List ℕ)
unescaped line = bytes_after [] 0 line

-- ---- comments

-- a byte of a name: 20 to 7E (hexadecimal) without `=`, which is 61
abbrev pub is_of_name : ℕ → Bool
is_of_name b = is_from 32 126 b && not (b == 61)

-- what is left of a comment after a part of its name
abbrev pub ends_name : List ℕ → Bool
ends_name [] = false
ends_name (b ∷ bs) = b == 61 || (is_of_name b && ends_name bs)

-- a name, `=` and a value
abbrev pub has_name : (comment : List ℕ) → Bool
has_name [] = false
has_name (b ∷ bs) = is_of_name b && ends_name bs

-- the comment of a line; none if it is no such line
unfoldable pub comment_in : (line : List ℕ) → Option (List ℕ)
comment_in line = option_and_then (λ comment. cond (has_name comment) (Some comment) None) (unescaped line)

-- ---- lines

-- a text without the 10 that ends its last line
abbrev pub without_end : List ℕ → List ℕ
without_end text = cond (nat_lt 0 (length text) && get_or text (length text - 1) 0 == 10) (take (length text - 1) text) text

-- what is between the ends of lines
abbrev pub split_lines : List ℕ → List (List ℕ)
split_lines text = slice_split (λ byte. byte == 10) text

-- the lines of a text, of which the last one need not be ended
abbrev pub lines_of : (text : List ℕ) → List (List ℕ)
lines_of text = cond (nat_lt 0 (length text)) (split_lines (without_end text)) []

-- these comments, and then those of the lines, of which the first has this number; or the number of the first line that
-- is no comment
unfoldable pub lines_after : (number : ℕ) → List (List ℕ) → (lines : List (List ℕ)) → Result (List (List ℕ)) ℕ
lines_after number found [] = Ok found
lines_after number found (line ∷ more) = elim (comment_in line) [ None ↦ Err number | Some comment ↦ lines_after (number + 1) (found ++ comment ∷ []) more ]

-- the comments of a text, or the number of its first line that is none, counted from 1
abbrev pub comments_in : (text : List ℕ) → Result (List (List ℕ)) ℕ
comments_in text = lines_after 1 [] (lines_of text)

-- what is claimed of the number of a line that is none
abbrev pub IfLine : (ℕ → Type 0) → LinesFault → Type 0
IfLine P fault.Memory = Unit {0}
IfLine P (fault.Line number) = P number

-- ---- out and in again

-- comments with names, of bytes
abbrev pub AreNamed : List (List ℕ) → Type 0
AreNamed comments = All (λ comment. has_name comment ≡ true) comments

abbrev pub AreBytes : List (List ℕ) → Type 0
AreBytes comments = All (λ comment. All (λ byte. byte < 256) comment) comments

-- Comments with names that are written as lines are read as the same ones; and what is read of any text has names, so
-- that it is read again from its own lines.
pub record LinesAreRead : Type 0 where
  pub same : (comments : List (List ℕ)) → AreNamed comments → AreBytes comments → comments_in (comment_lines comments) ≡ Ok comments
  pub named : (text : List ℕ) (comments : List (List ℕ)) → comments_in text ≡ Ok comments → AreNamed comments
