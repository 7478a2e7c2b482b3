-- What loops that write the bytes of a text, or the members of an object, have written.
use Rattle.std.proofs.Common.{◌≡◌, ◌<◌, ◌≤◌, ◌+◌, ℕ, List, [], ◌∷◌, ◌++◌, length, take, get_or, Ok, Option, Some, None, ap, refl, sym, ◌∙◌, append_assoc, append-nil, arith}
use Rattle.std.proofs.lemmas.List.{take_more, take_all}
use Rattle.flac_bits.specs.declared.target.Target as target
use Rattle.flac_bits.specs.declared.why.Why.{Why}
use Rattle.flac_shelf.specs.Shown.{shown_byte, shown}
use Rattle.flac_json.specs.Texts.{escape, escapes, hex_digits, all_digits}
use Rattle.flac_cli.specs.Objects.{known_members}
use Rattle.flac_cli.specs.declared.json.Member.{Member}
use Rattle.flac_cli.specs.inner.Lined.{Adds}
use Rattle.flac_cli.specs.inner.Objects.{more_text, next_text}
use Rattle.flac_cli.proofs.Lined.{adds_then, adds_same}

-- a text that is put together of one for each item
pub record IsJoined {A : Type 0} (one : A → List ℕ) (all : List A → List ℕ) : Type 0 where
  pub none : all [] ≡ []
  pub more : (x : A) (xs : List A) → all (x ∷ xs) ≡ one x ++ all xs

joined_last : {A : Type 0} {one : A → List ℕ} {all : List A → List ℕ} → IsJoined one all → (xs : List A) (x : A) → all (xs ++ x ∷ []) ≡ all xs ++ one x
joined_last {one = one} {all = all} j [] x = j.more x [] ∙ ap (λ l. one x ++ l) j.none ∙ append-nil (one x) ∙ sym (ap (λ l. l ++ one x) j.none)
joined_last {one = one} {all = all} j (y ∷ ys) x = j.more y (ys ++ x ∷ []) ∙ ap (λ l. one y ++ l) (joined_last j ys x) ∙ sym (append_assoc (one y) (all ys) (one x)) ∙ sym (ap (λ l. l ++ one x) (j.more y ys))

joined_more : {A : Type 0} {one : A → List ℕ} {all : List A → List ℕ} → IsJoined one all → (xs : List A) (i : ℕ) (x : A) → i < length xs → all (take i xs) ++ one (get_or xs i x) ≡ all (take (i + 1) xs)
joined_more {all = all} j xs i x lt = sym (ap all (take_more xs i x lt) ∙ joined_last j (take i xs) (get_or xs i x))

joined_all : {A : Type 0} (all : List A → List ℕ) (xs : List A) (i : ℕ) → length xs ≤ i → all (take i xs) ≡ all xs
joined_all all xs i le = ap all (take_all i xs le)

pub escapes_joined : IsJoined escape escapes
escapes_joined = record { none = refl; more = λ x xs. refl }

pub paths_joined : IsJoined shown_byte shown
paths_joined = record { none = refl; more = λ x xs. refl }

pub digits_joined : IsJoined hex_digits all_digits
digits_joined = record { none = refl; more = λ x xs. refl }

abbrev pub more_of : List (Option Member) → List ℕ
more_of ms = more_text (known_members ms)

members_more : (m : Option Member) (ms : List (Option Member)) → more_of (m ∷ ms) ≡ next_text m ++ more_of ms
members_more None ms = refl
members_more (Some m) ms = refl

pub members_joined : IsJoined next_text more_of
members_joined = record { none = refl; more = members_more }

module _ {T : Type 0} (g : target.Ghosts T) where
  -- so many items were written
  abbrev pub HasJoined : {A : Type 0} (all : List A → List ℕ) (xs : List A) (i : ℕ) (old new : T) (had has : List ℕ) → Type 0
  HasJoined all xs i old new had has = Adds {X = Unit {0}} {E = Why} g (all (take i xs)) old new had has (Ok tt)

  pub none_joined : {A : Type 0} {one : A → List ℕ} {all : List A → List ℕ} → IsJoined one all → (xs : List A) (t : T) (had : List ℕ) → HasJoined all xs 0 t t had had
  none_joined {all = all} j xs t had = record {
    names = refl;
    kept = omega arith;
    known = λ k. k;
    added = λ k. sym (append-nil (g.sent t ++ had)) ∙ ap (λ l. (g.sent t ++ had) ++ l) (sym (ap all (none_of xs) ∙ j.none));
    rises = tt;
  }
    where
      none_of : {A : Type 0} (xs : List A) → take 0 xs ≡ []
      none_of [] = refl
      none_of (x ∷ xs) = refl

  pub one_joined : {A : Type 0} {one : A → List ℕ} {all : List A → List ℕ} → IsJoined one all → (xs : List A) (i : ℕ) (x : A) {old mid new : T} {had held has : List ℕ} → i < length xs
      → HasJoined all xs i old mid had held → Adds {X = Unit {0}} {E = Why} g (one (get_or xs i x)) mid new held has (Ok tt) → HasJoined all xs (i + 1) old new had has
  one_joined j xs i x lt p q = adds_same g (Ok tt) (adds_then g (Ok tt) p q) (joined_more j xs i x lt)

  pub all_joined : {A : Type 0} (all : List A → List ℕ) (xs : List A) (i : ℕ) {old new : T} {had has : List ℕ} → length xs ≤ i → HasJoined all xs i old new had has → Adds {X = Unit {0}} {E = Why} g (all xs) old new had has (Ok tt)
  all_joined all xs i le p = adds_same g (Ok tt) p (joined_all all xs i le)
