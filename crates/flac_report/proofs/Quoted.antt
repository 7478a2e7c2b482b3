-- A text that is written between quotation marks is read again.
use Rattle.std.proofs.Common.{◌≡◌, ◌<◌, ◌+◌, ◌/◌, ◌%◌, ◌*◌, ℕ, suc, Bool, true, false, cond, nat_eq, nat_lt, List, [], ◌∷◌, ◌++◌, length, codes, Some, None, refl, sym, ap, ◌∙◌, append_assoc, append-nil, arith}
use Rattle.std.proofs.lemmas.Bool.Decides.{nat_tests}
use Rattle.std.specs.Str.{is_utf8}
use Rattle.flac_json.specs.Texts.{is_special, hex_digit, hex_digits, escapes}
use Rattle.flac_report.specs.inner.Reading.{digit_of, joined, escaped_in, letter_in, unescaped, if_utf8, text_in, path_end}
use Rattle.flac_report.proofs.Escapes.{step}

-- ---- digits

pub digit_is : (n : ℕ) → n < 16 → digit_of (hex_digit n) ≡ Some n
unfolding digit_of
digit_is n few = grind (arith, nat_tests)

byte_is : (b : ℕ) → b < 256 → joined (digit_of (hex_digit (b / 16))) (digit_of (hex_digit (b % 16))) ≡ Some b
byte_is b few =
    let high : b / 16 < 16 = omega (arith, few) in
    let low : b % 16 < 16 = omega arith in
    let whole : b / 16 * 16 + b % 16 ≡ b = omega arith in
    ap (λ d. joined d (digit_of (hex_digit (b % 16)))) (digit_is (b / 16) high) ∙ ap (joined (Some (b / 16))) (digit_is (b % 16) low) ∙ ap Some whole

-- ---- an escape

escaped_is : (h l b : ℕ) (rest : List ℕ) → joined (digit_of h) (digit_of l) ≡ Some b → escaped_in (117 ∷ 48 ∷ 48 ∷ h ∷ l ∷ rest) ≡ Some b
unfolding escaped_in
escaped_is h l b rest is =
    let long : nat_lt (suc (suc (suc (suc (suc (length rest)))))) 5 ≡ false = grind (arith, nat_tests) in
    rw long is

special_letter : (b : ℕ) (rest : List ℕ) → b < 256 → letter_in (92 ∷ 117 ∷ 48 ∷ 48 ∷ hex_digit (b / 16) ∷ hex_digit (b % 16) ∷ rest) ≡ Some (b, 6)
unfolding letter_in
special_letter b rest few = rw (escaped_is (hex_digit (b / 16)) (hex_digit (b % 16)) b rest (byte_is b few)) refl

plain_letter : (b : ℕ) (rest : List ℕ) → nat_eq b 92 ≡ false → letter_in (b ∷ rest) ≡ Some (b, 1)
unfolding letter_in
plain_letter b rest plain = rw plain refl

special_small : (b : ℕ) → is_special b ≡ true → b < 256
special_small b is = grind (arith, nat_tests)

not_backslash : (b : ℕ) → is_special b ≡ false → nat_eq b 92 ≡ false
not_backslash b is = grind (arith, nat_tests)

not_quote : (b : ℕ) → is_special b ≡ false → nat_eq b 34 ≡ false
not_quote b is = grind (arith, nat_tests)

not_end : (b : ℕ) → is_special b ≡ false → nat_eq b 10 ≡ false
not_end b is = grind (arith, nat_tests)

-- a byte before others
abbrev escape_by : (special : Bool) → ℕ → List ℕ
escape_by special byte = cond special (codes "\\u00" ++ hex_digits byte) (byte ∷ [])

one_by : (s : Bool) (b : ℕ) (done rest : List ℕ) → is_special b ≡ s → unescaped 0 done (escape_by s b ++ rest) ≡ unescaped 0 (done ++ b ∷ []) rest
one_by true b done rest is = step (92 ∷ 117 ∷ 48 ∷ 48 ∷ hex_digit (b / 16) ∷ hex_digit (b % 16) ∷ rest) done b 6 (omega arith) (omega arith) (special_letter b rest (special_small b is))
one_by false b done rest is = step (b ∷ rest) done b 1 (omega arith) (omega arith) (plain_letter b rest (not_backslash b is))

all_read : (bytes done : List ℕ) → unescaped 0 done (escapes bytes) ≡ Some (done ++ bytes)
unfolding unescaped
all_read [] done = ap Some (sym (append-nil done))
all_read (b ∷ bs) done = one_by (is_special b) b done (escapes bs) refl ∙ all_read bs (done ++ b ∷ []) ∙ ap Some (append_assoc done (b ∷ []) bs)

pub text_is : (path : List ℕ) → is_utf8 path ≡ true → text_in (escapes path) ≡ Some path
unfolding text_in
text_is path utf8 = ap if_utf8 (all_read path []) ∙ ap (λ b. cond b (Some path) None) utf8

-- ---- no quotation mark and no line feed are in it

abbrev pub ArePlain : List ℕ → Type 0
ArePlain [] = Unit {0}
ArePlain (b ∷ bytes) = (nat_eq b 34 ≡ false) × (nat_eq b 10 ≡ false) × ArePlain bytes

digit_no_quote : (n : ℕ) → nat_eq (hex_digit n) 34 ≡ false
digit_no_quote n = grind (arith, nat_tests)

digit_no_end : (n : ℕ) → nat_eq (hex_digit n) 10 ≡ false
digit_no_end n = grind (arith, nat_tests)

plain_by : (s : Bool) (b : ℕ) (rest : List ℕ) → is_special b ≡ s → ArePlain rest → ArePlain (escape_by s b ++ rest)
plain_by true b rest is more = (refl, refl, (refl, refl, (refl, refl, (refl, refl, (digit_no_quote (b / 16), digit_no_end (b / 16), (digit_no_quote (b % 16), digit_no_end (b % 16), more))))))
plain_by false b rest is more = (not_quote b is, not_end b is, more)

pub escapes_plain : (bytes : List ℕ) → ArePlain (escapes bytes)
escapes_plain [] = tt
escapes_plain (b ∷ bs) = plain_by (is_special b) b (escapes bs) refl (escapes_plain bs)

pub end_is : (text rest : List ℕ) → ArePlain text → path_end (text ++ 34 ∷ rest) ≡ length text
end_is [] rest plain = refl
end_is (b ∷ bs) rest plain =
    let more : path_end (bs ++ 34 ∷ rest) ≡ length bs = end_is bs rest plain.2 in
    rw plain.0 (omega (arith, more))
