-- Paths as they are printed.
use Rattle.std.proofs.Common.{◌≡◌, ◌≤◌, ◌<◌, ◌+◌, ◌/◌, ◌%◌, ℕ, zero, suc, Bool, true, false, cond, ◌&&◌, List, [], ◌∷◌, ◌++◌, inl, inr, refl, sym, ap, subst, ◌∙◌, append_assoc, arith}
use Rattle.std.specs.List.{All}
use Rattle.std.specs.Prelude.{IsUtf8, IsAscii, encode_utf8_all, nat_lt}
use Rattle.std.proofs.Math.Utf8.{encode}
use Rattle.std.specs.Str.{all_scalars as scalars}
use Rattle.std.specs.Char.{IsScalar}
use Rattle.std.proofs.lemmas.Bool.{cases_lt}
use Rattle.std.proofs.lemmas.Bool.Decides.{nat_tests}
use Rattle.std.proofs.lemmas.List.Elements.{All-append, All-cons, All-nil}
use Rattle.std.proofs.lemmas.Str.{IsUtf8-nil, IsUtf8-from_ascii, IsUtf8-encode, IsUtf8-append, encode_ascii}
use Rattle.flac_shelf.specs.Shown.{hex_digit, is_control, is_itself, shown_byte, shown, PathsAreShown}

-- ---- what is printed alike is the same

abbrev first_of : List ℕ → ℕ
first_of [] = 0
first_of (x ∷ xs) = x

abbrev others_of : List ℕ → List ℕ
others_of [] = []
others_of (x ∷ xs) = xs

firsts : {a b : ℕ} {x y : List ℕ} → a ∷ x ≡ b ∷ y → (a ≡ b) × (x ≡ y)
firsts p = (ap first_of p, ap others_of p)

same_digit : (m n : ℕ) → hex_digit m ≡ hex_digit n → m ≡ n
same_digit m n is = grind (arith, is)

-- a byte as it is printed
abbrev shown_by : (itself : Bool) → ℕ → List ℕ
shown_by itself b = cond itself (b ∷ []) (92 ∷ 120 ∷ hex_digit (b / 16) ∷ hex_digit (b % 16) ∷ [])

escaped_one : (a b : ℕ) (x y : List ℕ) → hex_digit (a / 16) ∷ hex_digit (a % 16) ∷ x ≡ hex_digit (b / 16) ∷ hex_digit (b % 16) ∷ y → (a ≡ b) × (x ≡ y)
escaped_one a b x y is =
    let high = firsts is in
    let low = firsts high.1 in
    let h : a / 16 ≡ b / 16 = same_digit (a / 16) (b / 16) high.0 in
    let l : a % 16 ≡ b % 16 = same_digit (a % 16) (b % 16) low.0 in
    (omega (arith, h, l), low.1)

not_itself : {X : Type 0} (b : ℕ) → 92 ≡ b → is_itself b ≡ true → X
not_itself b is plain = absurd (let t : false ≡ true = ap is_itself is ∙ plain in cc)

one_by : (p q : Bool) (a b : ℕ) (x y : List ℕ) → is_itself a ≡ p → is_itself b ≡ q → shown_by p a ++ x ≡ shown_by q b ++ y → (a ≡ b) × (x ≡ y)
one_by true true a b x y pa qb is = firsts is
one_by false true a b x y pa qb is = not_itself b (firsts is).0 qb
one_by true false a b x y pa qb is = not_itself a (sym (firsts is).0) pa
one_by false false a b x y pa qb is = escaped_one a b x y (firsts (firsts is).1).1

none_by : {X : Type 0} (q : Bool) (b : ℕ) (y : List ℕ) → [] ≡ shown_by q b ++ y → X
none_by true b y is = absurd cc
none_by false b y is = absurd cc

one : (a b : List ℕ) → shown a ≡ shown b → a ≡ b
one [] [] is = refl
one [] (b ∷ bs) is = none_by (is_itself b) b (shown bs) is
one (a ∷ xs) [] is = none_by (is_itself a) a (shown xs) (sym is)
one (a ∷ xs) (b ∷ bs) is =
    let p = one_by (is_itself a) (is_itself b) a b (shown xs) (shown bs) refl refl is in
    ap (λ x. x ∷ xs) p.0 ∙ ap (λ l. b ∷ l) (one xs bs p.1)

-- ---- no control character

abbrev IsPlain : ℕ → Type 0
IsPlain b = is_control b ≡ false

itself_plain : (b : ℕ) → is_itself b ≡ true → IsPlain b
itself_plain b e = grind (arith, nat_tests)

digit_plain : (n : ℕ) → n < 16 → IsPlain (hex_digit n)
digit_plain n small = elim (cases_lt n 10) [ inl low ↦ grind (arith, nat_tests) | inr high ↦ grind (arith, nat_tests) ]

escape_plain : (high low : ℕ) → high < 16 → low < 16 → All IsPlain (92 ∷ 120 ∷ hex_digit high ∷ hex_digit low ∷ [])
escape_plain high low h l =
    All-cons IsPlain 92 (120 ∷ hex_digit high ∷ hex_digit low ∷ []) refl
    (All-cons IsPlain 120 (hex_digit high ∷ hex_digit low ∷ []) refl
    (All-cons IsPlain (hex_digit high) (hex_digit low ∷ []) (digit_plain high h)
    (All-cons IsPlain (hex_digit low) [] (digit_plain low l) (All-nil IsPlain))))

byte_plain : (itself : Bool) (b : ℕ) → is_itself b ≡ itself → b < 256 → All IsPlain (shown_by itself b)
byte_plain true b e small = All-cons IsPlain b [] (itself_plain b e) (All-nil IsPlain)
byte_plain false b e small = escape_plain (b / 16) (b % 16) (omega arith) (omega arith)

printable : (path : List ℕ) → All (λ byte. byte < 256) path → All IsPlain (shown path)
printable [] all = All-nil IsPlain
printable (b ∷ path) all =
    All-append IsPlain (shown_byte b) (shown path) (byte_plain (is_itself b) b refl (all 0 b (omega arith))) (printable path (λ k d within. all (suc k) d (omega arith)))

pub paths_are_shown : PathsAreShown
paths_are_shown = record {
  one = one;
  printable = printable;
}

-- ---- a text stays one

-- bytes that are no ASCII are printed as themselves
high_itself : (b : ℕ) (rest : List ℕ) → 128 ≤ b → shown (b ∷ rest) ≡ b ∷ shown rest
high_itself b rest high =
    let e : is_itself b ≡ true = grind (arith, nat_tests) in
    ap (λ p. shown_by p b ++ shown rest) e

high_two : (a b : ℕ) → 128 ≤ a → 128 ≤ b → shown (a ∷ b ∷ []) ≡ a ∷ b ∷ []
high_two a b x y = high_itself a (b ∷ []) x ∙ ap (λ l. a ∷ l) (high_itself b [] y)

high_three : (a b c : ℕ) → 128 ≤ a → 128 ≤ b → 128 ≤ c → shown (a ∷ b ∷ c ∷ []) ≡ a ∷ b ∷ c ∷ []
high_three a b c x y z = high_itself a (b ∷ c ∷ []) x ∙ ap (λ l. a ∷ l) (high_two b c y z)

high_four : (a b c d : ℕ) → 128 ≤ a → 128 ≤ b → 128 ≤ c → 128 ≤ d → shown (a ∷ b ∷ c ∷ d ∷ []) ≡ a ∷ b ∷ c ∷ d ∷ []
high_four a b c d x y z w = high_itself a (b ∷ c ∷ d ∷ []) x ∙ ap (λ l. a ∷ l) (high_three b c d y z w)

-- the bytes of a character that is no ASCII
abbrev bytes_by : (first second third : Bool) → ℕ → List ℕ
bytes_by first second third c =
    cond first (c ∷ []) (cond second ((192 + c / 64) ∷ (128 + c % 64) ∷ []) (cond third ((224 + c / 4096) ∷ (128 + c / 64 % 64) ∷ (128 + c % 64) ∷ [])
    ((240 + c / 262144) ∷ (128 + c / 4096 % 64) ∷ (128 + c / 64 % 64) ∷ (128 + c % 64) ∷ [])))

high_by : (second third : Bool) (c : ℕ) → shown (bytes_by false second third c) ≡ bytes_by false second third c
high_by true third c = high_two _ _ (omega arith) (omega arith)
high_by false true c = high_three _ _ _ (omega arith) (omega arith) (omega arith)
high_by false false c = high_four _ _ _ _ (omega arith) (omega arith) (omega arith) (omega arith)

high_char : (c : ℕ) → 128 ≤ c → shown (encode c) ≡ encode c
unfolding encode
high_char c high =
    let f : nat_lt c 128 ≡ false = grind (arith, nat_tests) in
    subst (λ b. shown (bytes_by b (nat_lt c 2048) (nat_lt c 65536) c) ≡ bytes_by b (nat_lt c 2048) (nat_lt c 65536) c) (sym f) (high_by (nat_lt c 2048) (nat_lt c 65536) c)

ascii_none : IsAscii []
ascii_none i = omega arith

ascii_more : (x : ℕ) (xs : List ℕ) → x < 128 → IsAscii xs → IsAscii (x ∷ xs)
ascii_more x xs low more zero = low
ascii_more x xs low more (suc i) = more i

digit_low : (n : ℕ) → n < 16 → hex_digit n < 128
digit_low n small = elim (cases_lt n 10) [ inl low ↦ grind (arith, nat_tests) | inr high ↦ grind (arith, nat_tests) ]

low_by : (itself : Bool) (b : ℕ) → b < 128 → IsAscii (shown_by itself b ++ [])
low_by true b low = ascii_more b [] low ascii_none
low_by false b low =
    let high_digit : hex_digit (b / 16) < 128 = digit_low (b / 16) (omega arith) in
    let low_digit : hex_digit (b % 16) < 128 = digit_low (b % 16) (omega arith) in
    let last : IsAscii (hex_digit (b % 16) ∷ []) = ascii_more (hex_digit (b % 16)) [] low_digit ascii_none in
    let both : IsAscii (hex_digit (b / 16) ∷ hex_digit (b % 16) ∷ []) = ascii_more (hex_digit (b / 16)) (hex_digit (b % 16) ∷ []) high_digit last in
    ascii_more 92 (120 ∷ hex_digit (b / 16) ∷ hex_digit (b % 16) ∷ []) (omega arith) (ascii_more 120 (hex_digit (b / 16) ∷ hex_digit (b % 16) ∷ []) (omega arith) both)

low_char : (c : ℕ) → c < 128 → IsUtf8 (shown (c ∷ []))
low_char c low = IsUtf8-from_ascii (shown (c ∷ [])) (low_by (is_itself c) c low)

one_char : (c : ℕ) → IsScalar c → IsUtf8 (shown (encode c))
one_char c s = elim (cases_lt c 128) [ inl low ↦ subst (λ l. IsUtf8 (shown l)) (sym (encode_ascii c low)) (low_char c low) | inr high ↦ subst IsUtf8 (sym (high_char c high)) (IsUtf8-encode c s) ]

shown_joined : (a b : List ℕ) → shown (a ++ b) ≡ shown a ++ shown b
shown_joined [] b = refl
shown_joined (x ∷ a) b = ap (λ l. shown_byte x ++ l) (shown_joined a b) ∙ sym (append_assoc (shown_byte x) (shown a) (shown b))

both_true : (a b : Bool) → (a && b) ≡ true → (a ≡ true) × (b ≡ true)
both_true true true is = (refl, refl)
both_true true false is = absurd cc
both_true false b is = absurd cc

all_chars : (cs : List ℕ) → scalars cs ≡ true → IsUtf8 (shown (encode_utf8_all cs))
all_chars [] s = IsUtf8-nil
all_chars (c ∷ cs) s =
    let p = both_true _ (scalars cs) s in
    subst IsUtf8 (sym (shown_joined (encode c) (encode_utf8_all cs))) (IsUtf8-append (shown (encode c)) (shown (encode_utf8_all cs)) (one_char c p.0) (all_chars cs p.1))

pub shown_utf8 : (path : List ℕ) → IsUtf8 path → IsUtf8 (shown path)
shown_utf8 path u = subst (λ l. IsUtf8 (shown l)) u.1.1 (all_chars u.0 u.1.0)
