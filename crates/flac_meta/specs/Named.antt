-- The values of the comments of one name (RFC 9639, section 8.6).
use Rattle.std.specs.Prelude.{◌≡◌, ℕ, nat_eq, Bool, cond, List, [], ◌∷◌, ◌++◌, map}
use Rattle.std.specs.Char.{to_ascii_lowercase}
use Rattle.std.specs.Str.{bytes_eq}

-- the text before the first `=`, whose code is 61, and the text after it, if there is one
abbrev pub name_in : List ℕ → List ℕ
name_in [] = []
name_in (b ∷ bs) = cond (nat_eq b 61) [] (b ∷ name_in bs)

abbrev pub values_in : List ℕ → List (List ℕ)
values_in [] = []
values_in (b ∷ bs) = cond (nat_eq b 61) (bs ∷ []) (values_in bs)

-- two names are the same but for the case of ASCII letters
abbrev pub same_name : List ℕ → List ℕ → Bool
same_name a b = bytes_eq (map to_ascii_lowercase a) (map to_ascii_lowercase b)

-- the value of a comment, if it has this name
abbrev pub value_under : List ℕ → List ℕ → List (List ℕ)
value_under name text = cond (same_name (name_in text) name) (values_in text) []

-- the values of all comments of this name
unfoldable pub values_of : List ℕ → List (List ℕ) → List (List ℕ)
values_of name [] = []
values_of name (text ∷ texts) = value_under name text ++ values_of name texts

-- there are values, of which this is the first
abbrev pub IsFirstOf : List ℕ → List (List ℕ) → Type 0
IsFirstOf value values = (others : List (List ℕ)) × (values ≡ value ∷ others)

-- there are comments of this name, and this is the value of the first
abbrev pub IsFirstUnder : List ℕ → List (List ℕ) → List ℕ → Type 0
IsFirstUnder name texts value = IsFirstOf value (values_of name texts)
