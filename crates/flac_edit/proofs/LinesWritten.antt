-- Comments that were written as lines are read as the same ones, and what is read has names.
use Rattle.std.proofs.Common.{◌≡◌, ◌+◌, ◌-◌, ◌*◌, ◌/◌, ◌%◌, ◌<◌, ℕ, suc, Bool, true, false, cond, ◌&&◌, List, [], ◌∷◌, ◌++◌, length, length-append, map, get_or, Option, Some, None, Result, Ok, Err, inl, inr, refl, sym, ap, ◌∙◌, append_assoc, arith}
use Rattle.std.specs.Prelude.{◌==◌, nat_lt}
use Rattle.std.specs.List.{All, slice_split}
use Rattle.std.proofs.Math.Seq.{get_or-append_seam, take-append_seam}
use Rattle.std.proofs.lemmas.Bool.{cases_lt, lt-ltb}
use Rattle.std.proofs.lemmas.Bool.Decides.{nat_tests}
use Rattle.std.proofs.lemmas.List.{append-nil}
use Rattle.std.proofs.lemmas.List.Elements.{All-append, All-cons, All-nil}
use Rattle.std.proofs.lemmas.List.Splits.{slice_split_none, slice_split_at}
use Rattle.flac_edit.specs.Exported.{hex_digit, is_plain, escaped_byte, escaped, comment_line, comment_lines}
use Rattle.flac_edit.specs.Lines.{digit_value, escape_at, is_itself, bytes_after, unescaped, has_name, comment_in, without_end, lines_of, lines_after, AreNamed, AreBytes, LinesAreRead}

-- ---- lists of which something holds

first_of : {X : Type 0} (P : X → Type 0) (x : X) (xs : List X) → All P (x ∷ xs) → P x
first_of P x xs all = all 0 x (omega arith)

rest_of : {X : Type 0} (P : X → Type 0) (x : X) (xs : List X) → All P (x ∷ xs) → All P xs
rest_of P x xs all = λ k d within. all (suc k) d (omega arith)

-- ---- a byte

digit_back : (n : ℕ) → n < 16 → digit_value (hex_digit n) ≡ n
digit_back n small = elim (cases_lt n 10) [ inl low ↦ grind (arith, nat_tests) | inr high ↦ grind (arith, nat_tests) ]

no_escape : (long p more : Bool) (value : ℕ) → p ≡ false → cond (long && (p && more)) (Some value) None ≡ None
no_escape true p more value e = rw e refl
no_escape false p more value e = refl

plain_is : (b : ℕ) → is_plain b ≡ true → ((b == 92) ≡ false) × (is_itself b ≡ true)
plain_is b e = (grind (arith, nat_tests), grind (arith, nat_tests))

read_plain : (bytes : List ℕ) (b : ℕ) (rest : List ℕ) → is_plain b ≡ true → bytes_after bytes 0 (b ∷ rest) ≡ bytes_after (bytes ++ b ∷ []) 0 rest
unfolding bytes_after
read_plain bytes b rest e =
    let p = plain_is b e in
    let none : escape_at (b ∷ rest) ≡ None = no_escape _ (b == 92) _ _ p.0 in
    rw (none, p.1, bytes_after) refl

below_sixteen : (b : ℕ) → b < 256 → b / 16 < 16
below_sixteen b small = omega arith

digits_give : (high low b : ℕ) (rest : List ℕ) → high < 16 → low < 16 → 16 * high + low ≡ b → escape_at (92 ∷ 120 ∷ hex_digit high ∷ hex_digit low ∷ rest) ≡ Some b
digits_give high low b rest h l is =
    let long : nat_lt 3 (length (92 ∷ 120 ∷ hex_digit high ∷ hex_digit low ∷ rest)) ≡ true = lt-ltb _ _ (omega arith) in
    rw long (rw (digit_back high h) (rw (digit_back low l) (rw (lt-ltb high 16 h) (rw (lt-ltb low 16 l) (ap Some is)))))

escape_is : (b : ℕ) (rest : List ℕ) → b < 256 → escape_at (92 ∷ 120 ∷ hex_digit (b / 16) ∷ hex_digit (b % 16) ∷ rest) ≡ Some b
escape_is b rest small = digits_give (b / 16) (b % 16) b rest (below_sixteen b small) (omega arith) (omega arith)

read_escape : (bytes : List ℕ) (b : ℕ) (rest : List ℕ) → b < 256 →
    bytes_after bytes 0 (92 ∷ 120 ∷ hex_digit (b / 16) ∷ hex_digit (b % 16) ∷ rest) ≡ bytes_after (bytes ++ b ∷ []) 0 rest
unfolding bytes_after
read_escape bytes b rest small = rw (escape_is b rest small, bytes_after) refl

read_byte : (bytes : List ℕ) (b : ℕ) (rest : List ℕ) → b < 256 → bytes_after bytes 0 (escaped_byte b ++ rest) ≡ bytes_after (bytes ++ b ∷ []) 0 rest
read_byte bytes b rest small = go (is_plain b) refl
  where
    go : (plain : Bool) → is_plain b ≡ plain → bytes_after bytes 0 (cond plain (b ∷ []) (92 ∷ 120 ∷ hex_digit (b / 16) ∷ hex_digit (b % 16) ∷ []) ++ rest) ≡ bytes_after (bytes ++ b ∷ []) 0 rest
    go true e = read_plain bytes b rest e
    go false e = read_escape bytes b rest small

-- ---- a comment

read_escaped : (bytes comment : List ℕ) → All (λ byte. byte < 256) comment → bytes_after bytes 0 (escaped comment) ≡ Some (bytes ++ comment)
unfolding bytes_after
read_escaped bytes [] all = ap Some (sym (append-nil bytes))
read_escaped bytes (b ∷ comment) all =
    read_byte bytes b (escaped comment) (first_of (λ byte. byte < 256) b comment all)
    ∙ (read_escaped (bytes ++ b ∷ []) comment (rest_of (λ byte. byte < 256) b comment all) ∙ ap Some (append_assoc bytes (b ∷ []) comment))

comment_back : (comment : List ℕ) → has_name comment ≡ true → All (λ byte. byte < 256) comment → comment_in (escaped comment) ≡ Some comment
unfolding comment_in
comment_back comment named all = rw (read_escaped [] comment all) (rw named refl)

-- no byte of it ends a line
abbrev IsInLine : ℕ → Type 0
IsInLine b = (b == 10) ≡ false

plain_in_line : (b : ℕ) → is_plain b ≡ true → IsInLine b
plain_in_line b e = grind (arith, nat_tests)

digit_in_line : (n : ℕ) → IsInLine (hex_digit n)
digit_in_line n = elim (cases_lt n 10) [ inl low ↦ grind (arith, nat_tests) | inr high ↦ grind (arith, nat_tests) ]

escape_in_line : (high low : ℕ) → All IsInLine (92 ∷ 120 ∷ hex_digit high ∷ hex_digit low ∷ [])
escape_in_line high low =
    All-cons IsInLine 92 (120 ∷ hex_digit high ∷ hex_digit low ∷ []) refl
    (All-cons IsInLine 120 (hex_digit high ∷ hex_digit low ∷ []) refl
    (All-cons IsInLine (hex_digit high) (hex_digit low ∷ []) (digit_in_line high)
    (All-cons IsInLine (hex_digit low) [] (digit_in_line low) (All-nil IsInLine))))

byte_in_line : (b : ℕ) → All IsInLine (escaped_byte b)
byte_in_line b = go (is_plain b) refl
  where
    go : (plain : Bool) → is_plain b ≡ plain → All IsInLine (cond plain (b ∷ []) (92 ∷ 120 ∷ hex_digit (b / 16) ∷ hex_digit (b % 16) ∷ []))
    go true e = All-cons IsInLine b [] (plain_in_line b e) (All-nil IsInLine)
    go false e = escape_in_line (b / 16) (b % 16)

escaped_in_line : (comment : List ℕ) → All IsInLine (escaped comment)
escaped_in_line [] = All-nil IsInLine
escaped_in_line (b ∷ comment) = All-append IsInLine (escaped_byte b) (escaped comment) (byte_in_line b) (escaped_in_line comment)

-- ---- lines

-- the lines of comments, the last one without its end
body : List ℕ → List (List ℕ) → List ℕ
body comment [] = escaped comment
body comment (next ∷ more) = escaped comment ++ 10 ∷ body next more

lines_end : (comment : List ℕ) (more : List (List ℕ)) → comment_lines (comment ∷ more) ≡ body comment more ++ 10 ∷ []
unfolding body
lines_end comment [] = append-nil (comment_line comment)
lines_end comment (next ∷ more) =
    append_assoc (escaped comment) (10 ∷ []) (comment_lines (next ∷ more)) ∙ (ap (λ l. escaped comment ++ 10 ∷ l) (lines_end next more) ∙ sym (append_assoc (escaped comment) (10 ∷ body next more) (10 ∷ [])))

end_dropped : (text : List ℕ) → without_end (text ++ 10 ∷ []) ≡ text
end_dropped text =
    let long : length (text ++ 10 ∷ []) ≡ length text + 1 = length-append text (10 ∷ []) in
    let last : length (text ++ 10 ∷ []) - 1 ≡ length text = omega arith in
    let some : nat_lt 0 (length (text ++ 10 ∷ [])) ≡ true = lt-ltb _ _ (omega arith) in
    let ten : get_or (text ++ 10 ∷ []) (length text) 0 ≡ 10 = get_or-append_seam text 10 [] 0 in
    rw some (rw last (rw ten (take-append_seam text (10 ∷ []))))

body_split : (comment : List ℕ) (more : List (List ℕ)) → slice_split (λ byte. byte == 10) (body comment more) ≡ map escaped (comment ∷ more)
unfolding body
body_split comment [] = slice_split_none (λ byte. byte == 10) (escaped comment) (escaped_in_line comment)
body_split comment (next ∷ more) =
    slice_split_at (λ byte. byte == 10) (escaped comment) 10 (body next more) (escaped_in_line comment) refl ∙ ap (λ l. escaped comment ∷ l) (body_split next more)

lines_back : (comments : List (List ℕ)) → lines_of (comment_lines comments) ≡ map escaped comments
lines_back [] = refl
lines_back (comment ∷ more) =
    let e = lines_end comment more in
    let some : nat_lt 0 (length (comment_lines (comment ∷ more))) ≡ true = lt-ltb _ _ (omega (arith, ap length e, length-append (body comment more) (10 ∷ []))) in
    let split : slice_split (λ byte. byte == 10) (without_end (comment_lines (comment ∷ more))) ≡ map escaped (comment ∷ more) = ap (λ l. slice_split (λ byte. byte == 10) (without_end l)) e ∙ (ap (slice_split (λ byte. byte == 10)) (end_dropped (body comment more)) ∙ body_split comment more) in
    ap (λ b. cond b (slice_split (λ byte. byte == 10) (without_end (comment_lines (comment ∷ more)))) []) some ∙ split

all_back : (number : ℕ) (found comments : List (List ℕ)) → AreNamed comments → AreBytes comments → lines_after number found (map escaped comments) ≡ Ok (found ++ comments)
unfolding lines_after
all_back number found [] named bytes = ap Ok (sym (append-nil found))
all_back number found (comment ∷ more) named bytes =
    let e = comment_back comment (first_of (λ c. has_name c ≡ true) comment more named) (first_of (λ c. All (λ byte. byte < 256) c) comment more bytes) in
    rw (e, lines_after) (all_back (number + 1) (found ++ comment ∷ []) more (rest_of (λ c. has_name c ≡ true) comment more named) (rest_of (λ c. All (λ byte. byte < 256) c) comment more bytes) ∙ ap Ok (append_assoc found (comment ∷ []) more))

-- ---- names

comment_named : (line comment : List ℕ) → comment_in line ≡ Some comment → has_name comment ≡ true
unfolding comment_in
comment_named line comment e = go (unescaped line) e
  where
    kept : (text : List ℕ) (named : Bool) → has_name text ≡ named → cond named (Some text) None ≡ Some comment → has_name comment ≡ true
    kept text true is e = rw (sym (ap (λ o. elim o [ Some x ↦ x | None ↦ text ]) e)) is
    kept text false is e = cc

    go : (found : Option (List ℕ)) → elim found [ Some text ↦ cond (has_name text) (Some text) None | None ↦ None ] ≡ Some comment → has_name comment ≡ true
    go (Some text) e = kept text (has_name text) refl e
    go None e = cc

all_named : (number : ℕ) (found lines comments : List (List ℕ)) → AreNamed found → lines_after number found lines ≡ Ok comments → AreNamed comments
unfolding lines_after
all_named number found [] comments named e = let same : found ≡ comments = cc in rw (sym same) named
all_named number found (line ∷ more) comments named e = go (comment_in line) refl e (λ more_found. all_named (number + 1) more_found more comments)
  where
    go : (read : Option (List ℕ)) → comment_in line ≡ read → elim read as (λ r. Result (List (List ℕ)) ℕ) [ None ↦ Err number | Some comment ↦ lines_after (number + 1) (found ++ comment ∷ []) more ] ≡ Ok comments → ((more_found : List (List ℕ)) → AreNamed more_found → lines_after (number + 1) more_found more ≡ Ok comments → AreNamed comments) → AreNamed comments
    go None is e rest = cc
    go (Some comment) is e rest = rest (found ++ comment ∷ []) (All-append (λ c. has_name c ≡ true) found (comment ∷ []) named (All-cons (λ c. has_name c ≡ true) comment [] (comment_named line comment is) (All-nil (λ c. has_name c ≡ true)))) e

pub lines_are_read : LinesAreRead
lines_are_read = record {
  same = λ comments named bytes. ap (lines_after 1 []) (lines_back comments) ∙ all_back 1 [] comments named bytes;
  named = λ text comments e. all_named 1 [] (lines_of text) comments (All-nil (λ c. has_name c ≡ true)) e;
}
