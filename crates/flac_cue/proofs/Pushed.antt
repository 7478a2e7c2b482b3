-- Lines that are put together by pieces, one after another.
use Rattle.std.proofs.Common.{◌≡◌, ◌<◌, ◌+◌, ℕ, List, [], ◌∷◌, ◌++◌, length, drop, get_or, flat_map, sym, ap, ◌∙◌, append_assoc}
use Rattle.std.proofs.lemmas.List.{drop_more}

-- words, a number, and the end of the line
pub one_number : (old one two new words number : List ℕ) → one ≡ old ++ words → two ≡ one ++ number → new ≡ two ++ 10 ∷ [] → new ≡ old ++ (words ++ (number ++ 10 ∷ []))
one_number old one two new words number a b c =
    c ∙ ap (λ l. l ++ 10 ∷ []) (b ∙ ap (λ l. l ++ number) a) ∙ append_assoc (old ++ words) number (10 ∷ []) ∙ append_assoc old words (number ++ 10 ∷ [])

-- words, a number, a blank, a number, and the end of the line
pub two_numbers : (old one two three four new words first second : List ℕ) → one ≡ old ++ words → two ≡ one ++ first → three ≡ two ++ 32 ∷ [] → four ≡ three ++ second → new ≡ four ++ 10 ∷ []
    → new ≡ old ++ (words ++ (first ++ 32 ∷ (second ++ 10 ∷ [])))
two_numbers old one two three four new words first second a b c d e =
    e ∙ ap (λ l. l ++ 10 ∷ []) d ∙ append_assoc three second (10 ∷ []) ∙ ap (λ l. l ++ (second ++ 10 ∷ [])) (c ∙ ap (λ l. l ++ 32 ∷ []) (b ∙ ap (λ l. l ++ first) a))
    ∙ append_assoc ((old ++ words) ++ first) (32 ∷ []) (second ++ 10 ∷ []) ∙ append_assoc (old ++ words) first (32 ∷ (second ++ 10 ∷ [])) ∙ append_assoc old words (first ++ 32 ∷ (second ++ 10 ∷ []))

-- one more piece of those of a list
pub piece_pushed : {A : Type 0} (f : A → List ℕ) (xs : List A) (i : ℕ) (d : A) (now new all : List ℕ) → i < length xs → now ++ flat_map f (drop i xs) ≡ all
    → new ≡ now ++ f (get_or xs i d) → new ++ flat_map f (drop (i + 1) xs) ≡ all
piece_pushed f xs i d now new all lt left next =
    ap (λ l. l ++ flat_map f (drop (i + 1) xs)) next ∙ append_assoc now (f (get_or xs i d)) (flat_map f (drop (i + 1) xs)) ∙ ap (λ l. now ++ flat_map f l) (sym (drop_more xs i d lt)) ∙ left
