-- The name and the value of a comment.
use Rattle.std.proofs.Common.{◌≡◌, ℕ, suc, ◌<◌, ◌+◌, ◌-◌, Bool, true, false, cond, nat_eq, List, [], ◌∷◌, ◌++◌, length, map, get_or, take, drop, refl, sym, ap, ◌≤◌, ◌∙◌, arith}
use Rattle.std.specs.Char.{to_ascii_lowercase}
use Rattle.std.proofs.lemmas.List.{drop_more, at_drop_all, take_rest}
use Rattle.std.proofs.lemmas.Bool.{false_from_ne_true}
use Rattle.std.proofs.lemmas.Slice.Eq.{bytes_eq-Decides}
use Rattle.flac_meta.specs.Parts.{HasNoEquals}
use Rattle.flac_meta.specs.Named.{name_in, values_in, same_name, value_under, values_of}

tail_has_none : (b : ℕ) (bs : List ℕ) → HasNoEquals (b ∷ bs) → HasNoEquals bs
tail_has_none b bs none k lt e = none (suc k) (omega (arith, lt)) e

head_is_none : (b : ℕ) (bs : List ℕ) → HasNoEquals (b ∷ bs) → nat_eq b 61 ≡ false
head_is_none b bs none = grind (arith, none 0 (omega arith))

pub without_equals : (text : List ℕ) → HasNoEquals text → values_in text ≡ []
without_equals [] none = refl
without_equals (b ∷ bs) none = rw (head_is_none b bs none) (without_equals bs (tail_has_none b bs none))

pub name_of_parts : (name value : List ℕ) → HasNoEquals name → name_in (name ++ 61 ∷ value) ≡ name
name_of_parts [] value none = refl
name_of_parts (b ∷ bs) value none = rw (head_is_none b bs none) (ap (λ k. b ∷ k) (name_of_parts bs value (tail_has_none b bs none)))

pub value_of_parts : (name value : List ℕ) → HasNoEquals name → values_in (name ++ 61 ∷ value) ≡ value ∷ []
value_of_parts [] value none = refl
value_of_parts (b ∷ bs) value none = rw (head_is_none b bs none) (value_of_parts bs value (tail_has_none b bs none))

pub cond_same : {A : Type 0} (b : Bool) (x y : A) → x ≡ y → cond b x y ≡ y
cond_same true x y e = e
cond_same false x y e = refl

-- one text more was passed by
pub values_more : (name : List ℕ) (texts : List (List ℕ)) (i : ℕ) → i < length texts → values_of name (drop i texts) ≡ value_under name (get_or texts i []) ++ values_of name (drop (i + 1) texts)
unfolding values_of
values_more name texts i lt = ap (values_of name) (drop_more texts i [] lt)

-- what a comment gives under a name
pub under_none : (name text : List ℕ) → HasNoEquals text → value_under name text ≡ []
under_none name text none = cond_same (same_name (name_in text) name) (values_in text) [] (without_equals text none)

pub under_same : (name text own value : List ℕ) → text ≡ own ++ 61 ∷ value → HasNoEquals own → map to_ascii_lowercase own ≡ map to_ascii_lowercase name → value_under name text ≡ value ∷ []
under_same name text own value is first same =
    let test : same_name (name_in (own ++ 61 ∷ value)) name ≡ true = ap (λ k. same_name k name) (name_of_parts own value first) ∙ (bytes_eq-Decides (map to_ascii_lowercase own) (map to_ascii_lowercase name)).1 same in
    rw (is, test) (value_of_parts own value first)

pub under_other : (name text own value : List ℕ) → text ≡ own ++ 61 ∷ value → HasNoEquals own → (map to_ascii_lowercase own ≡ map to_ascii_lowercase name → ⊥) → value_under name text ≡ []
under_other name text own value is first other =
    let test : same_name (name_in (own ++ 61 ∷ value)) name ≡ false = ap (λ k. same_name k name) (name_of_parts own value first) ∙ false_from_ne_true _ (λ e. other ((bytes_eq-Decides (map to_ascii_lowercase own) (map to_ascii_lowercase name)).0 e)) in
    rw (is, test) refl

-- ---- a loop over texts

values_at : (name : List ℕ) (texts : List (List ℕ)) (i : ℕ) (text : List ℕ) → i < length texts → text ≡ get_or texts i text
    → values_of name (drop i texts) ≡ value_under name text ++ values_of name (drop (i + 1) texts)
unfolding values_of
values_at name texts i text lt is = ap (values_of name) (drop_more texts i text lt) ∙ ap (λ t. value_under name t ++ values_of name (drop (i + 1) texts)) (sym is)

pub values_passed : (name : List ℕ) (texts : List (List ℕ)) (i : ℕ) (text same : List ℕ) → i < length texts → text ≡ get_or texts i text → same ≡ text → value_under name same ≡ []
    → values_of name (drop i texts) ≡ values_of name (drop (i + 1) texts)
values_passed name texts i text same lt is e none = values_at name texts i text lt is ∙ ap (λ vs. vs ++ values_of name (drop (i + 1) texts)) (ap (value_under name) (sym e) ∙ none)

pub values_found : (name : List ℕ) (texts : List (List ℕ)) (i : ℕ) (text same value : List ℕ) → i < length texts → text ≡ get_or texts i text → same ≡ text → value_under name same ≡ value ∷ []
    → values_of name (drop i texts) ≡ value ∷ values_of name (drop (i + 1) texts)
values_found name texts i text same value lt is e some = values_at name texts i text lt is ∙ ap (λ vs. vs ++ values_of name (drop (i + 1) texts)) (ap (value_under name) (sym e) ∙ some)

pub values_over : (name : List ℕ) (texts : List (List ℕ)) (i : ℕ) → length texts ≤ i → values_of name (drop i texts) ≡ []
unfolding values_of
values_over name texts i le = at_drop_all (values_of name) texts i le

-- the texts after one
pub values_after : (name : List ℕ) (texts : List (List ℕ)) (i : ℕ) (value : List ℕ) → values_of name texts ≡ value ∷ values_of name (drop (i + 1) texts)
    → values_of name texts ≡ value ∷ values_of name (take (length texts - (i + 1)) (drop (i + 1) texts))
values_after name texts i value is = is ∙ ap (λ t. value ∷ values_of name t) (sym (take_rest texts (i + 1)))

pub one_less : (all rest : List (List ℕ)) (value : List ℕ) → all ≡ value ∷ rest → length rest < length all
one_less all rest value is = rw is (omega arith)
