-- The same edits once more change nothing.
use Rattle.std.proofs.Common.{◌≡◌, ◌<◌, ℕ, Bool, true, false, cond, nat_lt, List, [], ◌∷◌, ◌++◌, length, length-append, take, map, get_or, refl, ap, ◌∙◌, arith}
use Rattle.std.specs.Char.{to_ascii_lowercase}
use Rattle.std.proofs.Math.Seq.{get_or-append_seam}
use Rattle.std.proofs.lemmas.Bool.Decides.{nat_tests}
use Rattle.std.proofs.lemmas.List.{take_at}
use Rattle.std.proofs.lemmas.Slice.Eq.{bytes_eq-Decides}
use Rattle.flac_meta.specs.Named.{same_name}
use Rattle.flac_edit.specs.Edited.{is_named, without, with_one, EditsSettle}

without_twice : (name : List ℕ) (texts : List (List ℕ)) → without name (without name texts) ≡ without name texts
without_twice name [] = refl
without_twice name (text ∷ texts) = go (is_named name text) refl (without_twice name texts)
  where
    go : (b : Bool) → is_named name text ≡ b → without name (without name texts) ≡ without name texts → without name (cond b (without name texts) (text ∷ without name texts)) ≡ cond b (without name texts) (text ∷ without name texts)
    go true e more = more
    go false e more = rw e (ap (λ l. text ∷ l) more)

less : (m n : ℕ) → m < n → nat_lt m n ≡ true
less m n h = grind (arith, nat_tests)

-- a comment has its own name
own_name : (name value : List ℕ) → is_named name (name ++ 61 ∷ value) ≡ true
own_name name value =
    let text = name ++ 61 ∷ value in
    let longer : nat_lt (length name) (length text) ≡ true = less (length name) (length text) (omega (arith, length-append name (61 ∷ value))) in
    let equals : get_or text (length name) 0 ≡ 61 = get_or-append_seam name 61 value 0 in
    let front : take (length name) text ≡ name = take_at name (61 ∷ value) (length name) refl in
    let same : same_name (take (length name) text) name ≡ true = ap (λ k. same_name k name) front ∙ (bytes_eq-Decides (map to_ascii_lowercase name) (map to_ascii_lowercase name)).1 refl in
    rw (longer, equals, same) refl

set_twice : (name text : List ℕ) (texts : List (List ℕ)) → is_named name text ≡ true → with_one name text (with_one name text texts) ≡ with_one name text texts
set_twice name text [] own = rw own refl
set_twice name text (old ∷ texts) own = go (is_named name old) refl (set_twice name text texts own)
  where
    go : (b : Bool) → is_named name old ≡ b → with_one name text (with_one name text texts) ≡ with_one name text texts → with_one name text (cond b (text ∷ without name texts) (old ∷ with_one name text texts)) ≡ cond b (text ∷ without name texts) (old ∷ with_one name text texts)
    go true e more = rw own (ap (λ l. text ∷ l) (without_twice name texts))
    go false e more = rw e (ap (λ l. old ∷ l) more)

pub edits_settle : EditsSettle
edits_settle = record {
  cleared = λ edits c. refl;
  replaced = λ list edits c. refl;
  removed = λ name c. ap (λ l. record { vendor = c.vendor; list = l }) (without_twice name.now c.list);
  set = λ name value c. ap (λ l. record { vendor = c.vendor; list = l }) (set_twice name.now (name.now ++ 61 ∷ value.now) c.list (own_name name.now value.now));
}
