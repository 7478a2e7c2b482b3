-- Texts that were added one after another.
use Rattle.std.proofs.Common.{◌≡◌, ◌<◌, ◌+◌, ℕ, List, [], ◌∷◌, ◌++◌, length, drop, get_or, map, Result, Ok, Err, OnOk, refl, sym, ap, ◌∙◌, append_assoc, append-nil}
use Rattle.std.proofs.lemmas.List.{drop_more}
use Rattle.flac_json.specs.Json.{Json, Members, no_members, member, json_text, items_of, more_items, more_members, member_text}

-- members, and then others
abbrev pub both : Members → Members → Members
both no_members t = t
both (member n v s) t = member n v (both s t)

pub more_both : (s t : Members) → more_members (both s t) ≡ more_members s ++ more_members t
more_both no_members t = refl
more_both (member n v s) t = ap (λ l. (44 ∷ member_text n v) ++ l) (more_both s t) ∙ sym (append_assoc (44 ∷ member_text n v) (more_members s) (more_members t))

-- the text in another form
pub ok_same : {X E : Type 0} (r : Result X E) (old new a b : List ℕ) → OnOk r (new ≡ old ++ a) → a ≡ b → OnOk r (new ≡ old ++ b)
ok_same (Ok x) old new a b p is = p ∙ ap (λ l. old ++ l) is
ok_same (Err e) old new a b p is = tt

-- a text, and then another
pub two_pushed : (old mid new a b : List ℕ) → mid ≡ old ++ a → new ≡ mid ++ b → new ≡ old ++ (a ++ b)
two_pushed old mid new a b first next = next ∙ ap (λ l. l ++ b) first ∙ append_assoc old a b

pub then_pushed : {X E : Type 0} (r : Result X E) (old mid new a b : List ℕ) → mid ≡ old ++ a → OnOk r (new ≡ mid ++ b) → OnOk r (new ≡ old ++ (a ++ b))
then_pushed (Ok x) old mid new a b first next = two_pushed old mid new a b first next
then_pushed (Err e) old mid new a b first next = tt

regroup : (old k i : List ℕ) → ((old ++ k) ++ i) ++ 93 ∷ [] ≡ old ++ (k ++ ((i ++ 93 ∷ []) ++ []))
regroup old k i =
    append_assoc (old ++ k) i (93 ∷ []) ∙ append_assoc old k (i ++ 93 ∷ []) ∙ ap (λ l. old ++ (k ++ l)) (sym (append-nil (i ++ 93 ∷ [])))

-- the name of a list, its items, and the bracket after them
pub list_pushed : (old one two new k i : List ℕ) → one ≡ old ++ k → two ≡ one ++ i → new ≡ two ++ 93 ∷ [] → new ≡ old ++ (k ++ ((i ++ 93 ∷ []) ++ []))
list_pushed old one two new k i name items end = end ∙ ap (λ l. l ++ 93 ∷ []) (items ∙ ap (λ l. l ++ i) name) ∙ regroup old k i

-- one more item after a comma
pub item_pushed : {A : Type 0} (f : A → Json) (xs : List A) (i : ℕ) (d : A) (now one new all : List ℕ) → i < length xs → now ++ more_items (items_of (map f (drop i xs))) ≡ all
    → one ≡ now ++ 44 ∷ [] → new ≡ one ++ json_text (f (get_or xs i d)) → new ++ more_items (items_of (map f (drop (i + 1) xs))) ≡ all
item_pushed f xs i d now one new all lt left comma next =
    ap (λ l. l ++ more_items (items_of (map f (drop (i + 1) xs)))) next ∙ append_assoc one (json_text (f (get_or xs i d))) (more_items (items_of (map f (drop (i + 1) xs))))
    ∙ ap (λ l. l ++ (json_text (f (get_or xs i d)) ++ more_items (items_of (map f (drop (i + 1) xs))))) comma ∙ append_assoc now (44 ∷ []) (json_text (f (get_or xs i d)) ++ more_items (items_of (map f (drop (i + 1) xs))))
    ∙ ap (λ l. now ++ more_items (items_of (map f l))) (sym (drop_more xs i d lt)) ∙ left
