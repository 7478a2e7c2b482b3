-- What ties a layout to the spelling of its forms: the values of fields, one after another.
use Rattle.std.proofs.Common.{◌≡◌, ℕ, zero, suc, ◌<◌, ◌^◌, Bool, true, false, List, [], ◌∷◌, ◌++◌, Option, refl, sym, ap, subst, arith}
use Rattle.std.proofs.lemmas.List.{append-nil}
use Rattle.flac_bits.specs.Bits.{unsigned, bits_of}
use Rattle.flac_bits.specs.Lists.{list_of}
use Rattle.flac_bits.specs.State.{Mark, past, with_short}
use Rattle.flac_bits.specs.declared.why.Why.TheVariants.{Truncated}
use Rattle.flac_bits.specs.Layout.{Layout, done, bind, bits, unary, judge, refuse, mark, choose}
use Rattle.flac_bits.specs.Meaning.{Spells, AllKept, IsWithin, zeros_bits}
use Rattle.flac_bits.specs.Forms.{IsBytes}
use Rattle.flac_bits.specs.inner.Forms.{Ties}

-- whatever the fields' values are, that fit and keep the rules: this holds of the bits and of the value
abbrev pub ForEach : {A : Type 0} → Layout A → Mark → (List Bool → A → Type 0) → Type 0
ForEach (done x) m P = P [] x
ForEach (bind l f) m P = ForEach l m (λ part x. ForEach (f x) (past part m) (λ rest y. P (part ++ rest) y))
ForEach (bits n) m P = (v : ℕ) → v < 2 ^ n → P (unsigned n v) v
ForEach (unary limit) m P = (o : Option ℕ) → IsWithin limit o → P (zeros_bits limit o) o
ForEach (judge rules) m P = AllKept rules → P [] tt
ForEach (refuse why) m P = Unit {0}
ForEach mark m P = P [] (with_short Truncated m)

-- some values of the fields fit and keep the rules, so that this holds of the bits and of the value
abbrev pub ForSome : {A : Type 0} → Layout A → Mark → (List Bool → A → Type 0) → Type 0
ForSome (done x) m P = P [] x
ForSome (bind l f) m P = ForSome l m (λ part x. ForSome (f x) (past part m) (λ rest y. P (part ++ rest) y))
ForSome (bits n) m P = (v : ℕ) × (v < 2 ^ n) × P (unsigned n v) v
ForSome (unary limit) m P = (o : Option ℕ) × IsWithin limit o × P (zeros_bits limit o) o
ForSome (judge rules) m P = AllKept rules × P [] tt
ForSome (refuse why) m P = ⊥
ForSome mark m P = P [] (with_short Truncated m)

pub for_each : {A : Type 0} (l : Layout A) (m : Mark) (P : List Bool → A → Type 0) → ForEach l m P → (text : List Bool) (x : A) → Spells l m text x → P text x
for_each (done x) m P h text y s = subst (λ t. P t y) (sym s.0) (subst (λ z. P [] z) s.1 h)
for_each (bind l f) m P h text y (x, part, rest, split, s, s') =
    subst (λ t. P t y) (sym split) (for_each (f x) (past part m) (λ rest y. P (part ++ rest) y) (for_each l m (λ part x. ForEach (f x) (past part m) (λ rest y. P (part ++ rest) y)) h part x s) rest y s')
for_each (bits n) m P h text v s = subst (λ t. P t v) (sym s.1) (h v s.0)
for_each (unary limit) m P h text o s = subst (λ t. P t o) (sym s.1) (h o s.0)
for_each (judge rules) m P h text tt s = subst (λ t. P t tt) (sym s.0) (h s.1)
for_each (refuse why) m P h text y s = absurd s
for_each mark m P h text v s = subst (λ t. P t v) (sym s.0) (subst (λ z. P [] z) s.1 h)

pub each_part : {A : Type 0} (l : Layout A) (m : Mark) (P : List Bool → A → Type 0) → ((text : List Bool) (x : A) → Spells l m text x → P text x) → ForEach l m P
each_part (done x) m P h = h [] x (refl, refl)
each_part (bind l f) m P h = each_part l m (λ part x. ForEach (f x) (past part m) (λ rest y. P (part ++ rest) y)) (λ part x s.
    each_part (f x) (past part m) (λ rest y. P (part ++ rest) y) (λ rest y s'. h (part ++ rest) y (x, part, rest, refl, s, s')))
each_part (bits n) m P h = λ v lt. h (unsigned n v) v (lt, refl)
each_part (unary limit) m P h = λ o within. h (zeros_bits limit o) o (within, refl)
each_part (judge rules) m P h = λ kept. h [] tt (refl, kept)
each_part (refuse why) m P h = tt
each_part mark m P h = h [] (with_short Truncated m) (refl, refl)

pub for_some : {A : Type 0} (l : Layout A) (m : Mark) (P : List Bool → A → Type 0) → ForSome l m P → (text : List Bool) × (x : A) × Spells l m text x × P text x
for_some (done x) m P h = ([], x, (refl, refl), h)
for_some (bind l f) m P h =
    let first = for_some l m (λ part x. ForSome (f x) (past part m) (λ rest y. P (part ++ rest) y)) h in
    let second = for_some (f first.1) (past first.0 m) (λ rest y. P (first.0 ++ rest) y) first.3 in
    (first.0 ++ second.0, second.1, (first.1, first.0, second.0, refl, first.2, second.2), second.3)
for_some (bits n) m P h = (unsigned n h.0, h.0, (h.1, refl), h.2)
for_some (unary limit) m P h = (zeros_bits limit h.0, h.0, (h.1, refl), h.2)
for_some (judge rules) m P h = ([], tt, (refl, h.0), h.1)
for_some (refuse why) m P h = absurd h
for_some mark m P h = ([], with_short Truncated m, (refl, refl), h)

-- a part that is spelled
pub some_part : {A : Type 0} (l : Layout A) (m : Mark) (P : List Bool → A → Type 0) (text : List Bool) (x : A) → Spells l m text x → P text x → ForSome l m P
some_part (done x) m P text y s h = subst (λ z. P [] z) (sym s.1) (subst (λ t. P t y) s.0 h)
some_part (bind l f) m P text y (x, part, rest, split, s, s') h = some_part l m (λ part x. ForSome (f x) (past part m) (λ rest y. P (part ++ rest) y)) part x s
    (some_part (f x) (past part m) (λ rest y. P (part ++ rest) y) rest y s' (subst (λ t. P t y) split h))
some_part (bits n) m P text v s h = (v, s.0, subst (λ t. P t v) s.1 h)
some_part (unary limit) m P text o s h = (o, s.0, subst (λ t. P t o) s.1 h)
some_part (judge rules) m P text tt s h = (s.1, subst (λ t. P t tt) s.0 h)
some_part (refuse why) m P text y s h = absurd s
some_part mark m P text v s h = subst (λ z. P [] z) (sym s.1) (subst (λ t. P t v) s.0 h)

-- the form is spelled so, if the values of its fields give it
pub spelled_as : {A : Type 0} (l : Layout A) (m : Mark) (text : List Bool) (x : A) → ForSome l m (λ t y. (t ≡ text) × (y ≡ x)) → Spells l m text x
spelled_as l m text x h =
    let found = for_some l m (λ t y. (t ≡ text) × (y ≡ x)) h in
    subst (λ (t : List Bool). Spells l m t x) found.3.0 (subst (Spells l m found.0) found.3.1 found.2)

-- A tie in two short terms: what the values of the fields make, and which values make a form.
pub tie : {A : Type 0} (l : Layout A) (m : Mark) (Valid : A → Type 0) (spelling : A → List Bool)
    → ForEach l m (λ text x. Valid x × (text ≡ spelling x)) → ((x : A) → Valid x → ForSome l m (λ text y. (text ≡ spelling x) × (y ≡ x))) → Ties l m Valid spelling
tie l m Valid spelling only each = record {
  only = for_each l m (λ text x. Valid x × (text ≡ spelling x)) only;
  each = λ x valid. spelled_as l m (spelling x) x (each x valid);
}

-- a part that is tied
pub each_tied : {A : Type 0} (l : Layout A) (m : Mark) (Valid : A → Type 0) (spelling : A → List Bool) (P : List Bool → A → Type 0)
    → Ties l m Valid spelling → ((x : A) → Valid x → P (spelling x) x) → ForEach l m P
each_tied l m Valid spelling P t h = each_part l m P (λ text x s. let o = t.only text x s in subst (λ k. P k x) (sym o.1) (h x o.0))

pub some_tied : {A : Type 0} (l : Layout A) (m : Mark) (Valid : A → Type 0) (spelling : A → List Bool) (P : List Bool → A → Type 0) (x : A)
    → Ties l m Valid spelling → Valid x → P (spelling x) x → ForSome l m P
some_tied l m Valid spelling P x t valid h = some_part l m P (spelling x) x (t.each x valid) h

-- ---- bytes, one after another

no_bytes : (xs : List ℕ) → IsBytes 0 xs → [] ≡ xs
no_bytes [] h = refl
no_bytes (x ∷ xs) h = absurd (omega (arith, h.many))

pub bytes_tie : (n : ℕ) (m : Mark) → Ties (list_of n (bits 8)) m (IsBytes n) bits_of
unfolding list_of
bytes_tie zero m = tie (list_of 0 (bits 8)) m (IsBytes 0) bits_of (record { many = refl; small = tt }, refl) (λ xs v. (ap bits_of (no_bytes xs v), no_bytes xs v))
bytes_tie (suc n) m = tie (list_of (suc n) (bits 8)) m (IsBytes (suc n)) bits_of
    (λ x lt. each_tied (list_of n (bits 8)) (past (unsigned 8 x) m) (IsBytes n) bits_of (λ part xs. IsBytes (suc n) (x ∷ xs) × (unsigned 8 x ++ (part ++ []) ≡ bits_of (x ∷ xs))) (bytes_tie n (past (unsigned 8 x) m))
    (λ xs v. (record { many = omega (arith, v.many); small = (lt, v.small) }, ap (λ t. unsigned 8 x ++ t) (append-nil (bits_of xs)))))
    (go (λ k. bytes_tie n k))
  where
    go : ((k : Mark) → Ties (list_of n (bits 8)) k (IsBytes n) bits_of) → (ys : List ℕ) → IsBytes (suc n) ys → ForSome (list_of (suc n) (bits 8)) m (λ text zs. (text ≡ bits_of ys) × (zs ≡ ys))
    go t [] v = absurd (omega (arith, v.many))
    go t (y ∷ ys) v = (
      y,
      v.small.0,
      some_tied (list_of n (bits 8)) (past (unsigned 8 y) m) (IsBytes n) bits_of (λ part zs. (unsigned 8 y ++ (part ++ []) ≡ bits_of (y ∷ ys)) × (y ∷ zs ≡ y ∷ ys)) ys (t (past (unsigned 8 y) m))
          (record { many = omega (arith, v.many); small = v.small.1 }) (ap (λ t. unsigned 8 y ++ t) (append-nil (bits_of ys)), refl),
    )

-- ---- what a test chooses

pub choose_each : {A : Type 0} (b : Bool) (l r : Layout A) (m : Mark) (P : List Bool → A → Type 0) → (b ≡ true → ForEach l m P) → (b ≡ false → ForEach r m P) → ForEach (choose b l r) m P
choose_each true l r m P f g = f refl
choose_each false l r m P f g = g refl

pub choose_true : {A : Type 0} (b : Bool) (l r : Layout A) (m : Mark) (P : List Bool → A → Type 0) → b ≡ true → ForSome l m P → ForSome (choose b l r) m P
choose_true true l r m P e h = h
choose_true false l r m P e h = absurd (two e)
  where
    two : false ≡ true → ⊥
    two e = absurd cc

pub choose_false : {A : Type 0} (b : Bool) (l r : Layout A) (m : Mark) (P : List Bool → A → Type 0) → b ≡ false → ForSome r m P → ForSome (choose b l r) m P
choose_false false l r m P e h = h
choose_false true l r m P e h = absurd (two e)
  where
    two : true ≡ false → ⊥
    two e = absurd cc
