-- Hexadecimal digits are written as themselves.
use Rattle.std.proofs.Common.{◌≡◌, ◌/◌, ◌%◌, ℕ, List, [], ◌∷◌, ◌++◌, ap, refl, ◌∙◌, arith}
use Rattle.flac_json.specs.Texts.{escape, escapes, hex_digit, all_digits}

digit_plain : (n : ℕ) → escape (hex_digit n) ≡ hex_digit n ∷ []
digit_plain n = grind arith

pub escaped_digits : (bytes : List ℕ) → escapes (all_digits bytes) ≡ all_digits bytes
escaped_digits [] = refl
escaped_digits (x ∷ xs) =
    ap (λ l. l ++ (escape (hex_digit (x % 16)) ++ escapes (all_digits xs))) (digit_plain (x / 16)) ∙ ap (λ l. hex_digit (x / 16) ∷ (l ++ escapes (all_digits xs))) (digit_plain (x % 16))
    ∙ ap (λ l. hex_digit (x / 16) ∷ hex_digit (x % 16) ∷ l) (escaped_digits xs)
