-- The text of a list of linear predictors: in each line one, PRECISION SHIFT C1 C2 .., or none. They are the fields of
-- a subframe with a linear predictor, the coefficient for the nearest sample first (RFC 9639, section 9.2.6).
use Rattle.std.specs.Prelude.{◌+◌, ◌-◌, ◌*◌, ◌^◌, ◌==◌, ◌||◌, ◌&&◌, ℕ, Bool, cond, nat_lt, ℤ, ◌≡◌, pos, negsuc, neg_ℤ, List, [], ◌∷◌, ◌++◌, length, map, drop, Option, Some, None, option_map, option_and_then, Result, Ok, Err}
use Rattle.std.specs.List.{filter, list_all, slice_split, before_first}
use Rattle.std.specs.Str.Parse.{starts_with_minus}
use Rattle.flac_subframe.specs.format.Bodies.{Chooses, linear}
use Rattle.flac_subframe.specs.format.Handed.{predictor_of}
use Rattle.flac_subframe.specs.declared.format.linear.LinearPredictor.{LinearPredictor}

-- ---- words

-- a space, a tab or a carriage return
abbrev pub is_blank : ℕ → Bool
is_blank byte = byte == 32 || (byte == 9 || byte == 13)

-- the words of a line, up to the `#` of its comment
abbrev pub words_of : (line : List ℕ) → List (List ℕ)
words_of line = filter (λ word. nat_lt 0 (length word)) (slice_split is_blank (before_first (λ byte. byte == 35) line))

-- ---- numbers

-- the number below 100000 that decimal digits write after those of n
unfoldable pub digits_after : ℕ → (digits : List ℕ) → Option ℕ
digits_after n [] = Some n
digits_after n (byte ∷ more) = cond (nat_lt 47 byte && (nat_lt byte 58 && nat_lt n 10000)) (digits_after (n * 10 + (byte - 48)) more) None

-- the number below 100000 that a word is, in decimal digits
abbrev pub natural_in : (word : List ℕ) → Option ℕ
natural_in word = cond (nat_lt 0 (length word)) (digits_after 0 word) None

-- the number that a word is: a natural one, or a minus and one
abbrev pub number_in : (word : List ℕ) → Option ℤ
number_in word = cond (starts_with_minus word) (option_map (λ n. neg_ℤ (pos n)) (natural_in (drop 1 word))) (option_map pos (natural_in word))

-- these numbers, and then those that the words are
unfoldable pub numbers_after : List ℤ → (words : List (List ℕ)) → Option (List ℤ)
numbers_after numbers [] = Some numbers
numbers_after numbers (word ∷ more) = option_and_then (λ z. numbers_after (numbers ++ z ∷ []) more) (number_in word)

-- ---- lines

-- a number fits `precision` bits in two's complement
abbrev pub fits : (precision : ℕ) → ℤ → Bool
fits precision (pos n) = nat_lt n (2 ^ (precision - 1))
fits precision (negsuc n) = nat_lt n (2 ^ (precision - 1))

-- a precision of 1 to 15 bits, a shift of 0 to 15, and 1 to 32 coefficients that fit the precision
unfoldable pub is_predictor : (precision shift : ℕ) → (coefficients : List ℤ) → Bool
is_predictor precision shift coefficients =
    nat_lt 0 precision && (nat_lt precision 16 && (nat_lt shift 16
    && (nat_lt 0 (length coefficients) && (nat_lt (length coefficients) 33 && list_all (fits precision) coefficients))))

-- a number that is not negative
abbrev pub natural : ℤ → Option ℕ
natural (pos n) = Some n
natural (negsuc n) = None

-- the predictor of these fields, if they are one
abbrev pub predictor_with : (precision shift : ℕ) → (coefficients : List ℤ) → Option (List Chooses)
predictor_with precision shift coefficients = cond (is_predictor precision shift coefficients) (Some (linear precision shift coefficients ∷ [])) None

-- the predictors of a line of these numbers, none or one; `None` if the numbers are no predictor
abbrev pub line_of : (numbers : List ℤ) → Option (List Chooses)
line_of [] = Some []
line_of (z ∷ []) = None
line_of (y ∷ z ∷ coefficients) = option_and_then (λ precision. option_and_then (λ shift. predictor_with precision shift coefficients) (natural z)) (natural y)

-- those of a line; `None` if the line is wrong
unfoldable pub line_in : (line : List ℕ) → Option (List Chooses)
line_in line = option_and_then line_of (numbers_after [] (words_of line))

-- these predictors, and then those of the lines, of which the first has this number; or the number of the first wrong
-- line
unfoldable pub lines_after : (number : ℕ) → List Chooses → (lines : List (List ℕ)) → Result (List Chooses) ℕ
lines_after number found [] = Ok found
lines_after number found (line ∷ more) = elim (line_in line) [ None ↦ Err number | Some new ↦ lines_after (number + 1) (found ++ new) more ]

-- the predictors of a text, or the number of its first wrong line, counted from 1
abbrev pub predictors_in : (text : List ℕ) → Result (List Chooses) ℕ
predictors_in text = lines_after 1 [] (slice_split (λ byte. byte == 10) text)

-- the text is a list of exactly these predictors
abbrev pub AreListed : (text : List ℕ) → List LinearPredictor → Type 0
AreListed text ps = predictors_in text ≡ Ok (map predictor_of ps)
