-- The words, numbers and times of a line of a cue sheet.
use Rattle.std.specs.Prelude.{ℕ, ◌+◌, ◌-◌, ◌*◌, Bool, ◌&&◌, ◌||◌, not, cond, nat_eq, nat_lt, nat_le, ◌==◌, List, [], ◌∷◌, length, take, drop, Option, Some, None}
use Rattle.std.specs.List.{position_or_len}

-- ---- words

-- blank, tab and carriage return
abbrev pub is_blank : ℕ → Bool
is_blank b = nat_eq b 32 || (nat_eq b 9 || nat_eq b 13)

-- a text without the blanks that it begins with
abbrev pub trimmed : List ℕ → List ℕ
trimmed text = drop (position_or_len (λ b. not (is_blank b)) text) text

-- where a byte is first; the length of the text if it is not there
abbrev pub place_of : ℕ → List ℕ → ℕ
place_of byte text = position_or_len (λ b. b == byte) text

-- The first word of a text that begins with no blank: what is between quotation marks, or else before the next blank;
-- and what is after it.
unfoldable pub word_at : List ℕ → List ℕ
word_at [] = []
word_at (b ∷ text) = cond (nat_eq b 34) (take (place_of 34 text) text) (take (position_or_len is_blank (b ∷ text)) (b ∷ text))

unfoldable pub after_at : List ℕ → List ℕ
after_at [] = []
after_at (b ∷ text) = cond (nat_eq b 34) (drop (place_of 34 text) text) (drop (position_or_len is_blank (b ∷ text)) (b ∷ text))

-- the same of any text; the word is empty if there is none
abbrev pub word_of : List ℕ → List ℕ
word_of text = word_at (trimmed text)

abbrev pub after_word : List ℕ → List ℕ
after_word text = after_at (trimmed text)

-- ---- numbers

abbrev pub is_digit : ℕ → Bool
is_digit b = nat_le 48 b && nat_le b 57

-- a number with one more digit, below 2 ^ 64
unfoldable pub with_digit : ℕ → ℕ → Option ℕ
with_digit n b = cond (is_digit b && nat_le (n * 10 + (b - 48)) 18446744073709551615) (Some (n * 10 + (b - 48))) None

unfoldable pub number_after : ℕ → List ℕ → Option ℕ
number_after n [] = Some n
number_after n (b ∷ word) = elim (with_digit n b) [ None ↦ None | Some m ↦ number_after m word ]

-- the number that a word writes in decimal digits, one at least, below 2 ^ 64
unfoldable pub number_of : List ℕ → Option ℕ
number_of word = cond (nat_eq (length word) 0) None (number_after 0 word)

-- ---- times

-- the frames of minutes, seconds and frames, of which a second has 75
unfoldable pub frames_of : (minutes seconds frames : Option ℕ) → Option ℕ
frames_of None seconds frames = None
frames_of (Some m) None frames = None
frames_of (Some m) (Some s) None = None
frames_of (Some m) (Some s) (Some f) = cond (nat_lt m 4294967296 && (nat_lt s 60 && nat_lt f 75)) (Some ((m * 60 + s) * 75 + f)) None

-- a text before and after its first colon
abbrev pub before_colon : List ℕ → List ℕ
before_colon text = take (place_of 58 text) text

abbrev pub after_colon : List ℕ → List ℕ
after_colon text = drop (place_of 58 text + 1) text

-- a time, as mm:ss:ff
unfoldable pub time_of : List ℕ → Option ℕ
time_of word =
    frames_of (number_of (before_colon word)) (number_of (before_colon (after_colon word))) (number_of (after_colon (after_colon word)))
