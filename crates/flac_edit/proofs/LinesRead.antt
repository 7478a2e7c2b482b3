-- One step through the bytes of a line and through the lines of a text, and the end of each.
use Rattle.std.proofs.Common.{◌≡◌, ◌+◌, ◌<◌, ◌≤◌, ℕ, zero, suc, Bool, true, false, List, [], ◌∷◌, ◌++◌, length, drop, get_or, Some, None, Ok, Err, refl, sym, ap, ◌∙◌, arith}
use Rattle.std.specs.Prelude.{◌==◌}
use Rattle.std.specs.List.{enumerate_from}
use Rattle.std.proofs.lemmas.List.{at_drop_more, at_drop_all, drop-drop, nil_from_length}
use Rattle.std.proofs.lemmas.List.FromFn.{length-enumerate_from, get_or-enumerate_from}
use Rattle.std.proofs.lemmas.Bool.{eqb-true}
use Rattle.flac_edit.specs.Lines.{escape_at, is_itself, bytes_after, comment_in, lines_after, comments_in}

-- ---- bytes

-- bytes that are skipped are as if they were not there
skips : (bytes : List ℕ) (skip : ℕ) (text : List ℕ) → bytes_after bytes skip text ≡ bytes_after bytes 0 (drop skip text)
unfolding bytes_after
skips bytes zero text = refl
skips bytes (suc skip) [] = refl
skips bytes (suc skip) (b ∷ text) = skips bytes skip text

drop_sum : (i k : ℕ) (xs : List ℕ) → drop k (drop i xs) ≡ drop (i + k) xs
drop_sum i k xs = drop-drop k i xs

escape_first : (bytes text : List ℕ) (value : ℕ) → escape_at text ≡ Some value → bytes_after bytes 0 text ≡ bytes_after (bytes ++ value ∷ []) 0 (drop 4 text)
unfolding bytes_after
escape_first bytes [] value e = cc
escape_first bytes (b ∷ text) value e = rw (e, bytes_after) (skips (bytes ++ value ∷ []) 3 text)

pub escape_next : (line bytes rest : List ℕ) (i value : ℕ) → rest ≡ drop i line → escape_at rest ≡ Some value →
    bytes_after bytes 0 (drop i line) ≡ bytes_after (bytes ++ value ∷ []) 0 (drop (i + 4) line)
escape_next line bytes rest i value is e =
    escape_first bytes (drop i line) value (ap escape_at (sym is) ∙ e) ∙ ap (bytes_after (bytes ++ value ∷ []) 0) (drop_sum i 4 line)

itself_first : (bytes text : List ℕ) → 0 < length text → escape_at text ≡ None → is_itself (get_or text 0 0) ≡ true →
    bytes_after bytes 0 text ≡ bytes_after (bytes ++ get_or text 0 0 ∷ []) 0 (drop 1 text)
unfolding bytes_after
itself_first bytes [] some e is = absurd (omega arith)
itself_first bytes (b ∷ text) some e is = rw (e, is, bytes_after) refl

wrong_first : (bytes text : List ℕ) → 0 < length text → escape_at text ≡ None → is_itself (get_or text 0 0) ≡ false → bytes_after bytes 0 text ≡ None
unfolding bytes_after
wrong_first bytes [] some e is = absurd (omega arith)
wrong_first bytes (b ∷ text) some e is = rw (e, is, bytes_after) refl

-- the first byte of what is left
front_is : (line : List ℕ) (i : ℕ) → i < length line → (get_or (drop i line) 0 0 ≡ get_or line i 0) × (0 < length (drop i line))
front_is [] i below = absurd (omega arith)
front_is (b ∷ line) zero below = (refl, omega arith)
front_is (b ∷ line) (suc i) below = front_is line i (omega arith)

pub itself_next : (line bytes rest : List ℕ) (i b : ℕ) → i < length line → rest ≡ drop i line → get_or line i 0 ≡ b → escape_at rest ≡ None → is_itself b ≡ true →
    bytes_after bytes 0 (drop i line) ≡ bytes_after (bytes ++ b ∷ []) 0 (drop (i + 1) line)
itself_next line bytes rest i b below is here e itself =
    let f = front_is line i below in
    let same : get_or (drop i line) 0 0 ≡ b = f.0 ∙ here in
    itself_first bytes (drop i line) f.1 (ap escape_at (sym is) ∙ e) (ap is_itself same ∙ itself)
    ∙ (ap (λ x. bytes_after (bytes ++ x ∷ []) 0 (drop 1 (drop i line))) same ∙ ap (bytes_after (bytes ++ b ∷ []) 0) (drop_sum i 1 line))

pub wrong_byte : (line bytes rest : List ℕ) (i b : ℕ) → i < length line → rest ≡ drop i line → get_or line i 0 ≡ b → escape_at rest ≡ None → is_itself b ≡ false →
    bytes_after bytes 0 (drop i line) ≡ None
wrong_byte line bytes rest i b below is here e itself =
    let f = front_is line i below in
    wrong_first bytes (drop i line) f.1 (ap escape_at (sym is) ∙ e) (ap is_itself (f.0 ∙ here) ∙ itself)

pub bytes_end : (line bytes : List ℕ) (i : ℕ) → length line ≤ i → bytes_after bytes 0 (drop i line) ≡ Some bytes
unfolding bytes_after
bytes_end line bytes i end = at_drop_all (bytes_after bytes 0) line i end

-- ---- lines

pub lines-next : (ls : List (List ℕ)) (i n : ℕ) (l : List ℕ) (found : List (List ℕ)) (comment : List ℕ) → i < length ls → l ≡ get_or ls i l → comment_in l ≡ Some comment →
    lines_after n found (drop i ls) ≡ lines_after (n + 1) (found ++ comment ∷ []) (drop (i + 1) ls)
unfolding lines_after
lines-next ls i n l found comment within is e =
    at_drop_more (lines_after n found) ls i l within ∙ (rw (sym is) (rw (e, lines_after) refl))

pub lines-wrong : (ls : List (List ℕ)) (i n : ℕ) (l : List ℕ) (found : List (List ℕ)) → i < length ls → l ≡ get_or ls i l → comment_in l ≡ None →
    lines_after n found (drop i ls) ≡ Err n
unfolding lines_after
lines-wrong ls i n l found within is e =
    at_drop_more (lines_after n found) ls i l within ∙ (rw (sym is) (rw (e, lines_after) refl))

pub lines-end : (ls : List (List ℕ)) (i n : ℕ) (found : List (List ℕ)) → length ls ≤ i → lines_after n found (drop i ls) ≡ Ok found
unfolding lines_after
lines-end ls i n found end = at_drop_all (lines_after n found) ls i end

-- a text without bytes has no lines
pub no_lines : (text : List ℕ) (list : List (List ℕ)) (empty : Bool) → empty ≡ (length text == 0) → empty ≡ true → list ≡ [] → comments_in text ≡ Ok list
unfolding lines_after
no_lines text list empty is e none = ap comments_in (nil_from_length text (eqb-true (length text) 0 (sym is ∙ e))) ∙ ap Ok (sym none)

-- the item of an enumerated list at a place is that place, and the item there
pub numbered : (ls : List (List ℕ)) (i n : ℕ) (l : List ℕ) → i < length (enumerate_from 0 ls) → (n, l) ≡ get_or (enumerate_from 0 ls) i (n, l) →
    (i < length ls) × (n ≡ i) × (l ≡ get_or ls i l)
numbered ls i n l within is =
    let inside : i < length ls = omega (arith, within, length-enumerate_from 0 ls) in
    let e = is ∙ get_or-enumerate_from 0 ls i (n, l) inside in
    (inside, omega (arith, ap (λ p. p.0) e), ap (λ p. p.1) e)
