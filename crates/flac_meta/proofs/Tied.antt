-- What ties the fields of a block to their spellings.
use Rattle.std.proofs.Common.{◌≡◌, ℕ, zero, suc, ◌+◌, ◌-◌, ◌*◌, ◌/◌, ◌%◌, ◌^◌, ◌<◌, ◌≤◌, Bool, false, not, nat_eq, nat_lt, List, [], ◌∷◌, ◌++◌, length, refl, sym, ap, subst, ◌∙◌, arith, append_assoc}
use Rattle.std.proofs.lemmas.Nat.{pow_pos}
use Rattle.std.proofs.lemmas.List.{append-nil}
use Rattle.std.proofs.lemmas.Bool.Decides.{nat_tests}
use Rattle.std.specs.Prelude.{⊤}
use Rattle.flac_bits.specs.Bits.{unsigned, bits_of}
use Rattle.flac_bits.specs.State.{Mark, past}
use Rattle.flac_bits.specs.Layout.{Layout, bind, bits, refuse}
use Rattle.flac_bits.specs.Lists.{list_of}
use Rattle.flac_bits.specs.Meaning.{Spells}
use Rattle.flac_bits.specs.Forms.{joined, IsBytes, AreBytes}
use Rattle.flac_bits.specs.inner.Forms.{Ties}
use Rattle.flac_bits.specs.declared.why.Why.{Why}
use Rattle.flac_bits.specs.declared.why.Why.TheVariants.{BlockLength}
use Rattle.flac_bits.proofs.Ties.{ForEach, ForSome, tie, each_part, each_tied, some_tied, bytes_tie, choose_each, choose_false}
use Rattle.flac_bits.specs.LittleEndian.{little_32, little_bits}
use Rattle.flac_meta.specs.Padding.{skipped}
use Rattle.flac_meta.specs.Fields.{part, needs, nothing_left, sized, number_32, in_turn, zeros, reserved}
use Rattle.flac_meta.specs.Spelling.{zero_bits, each_spelled}
use Rattle.flac_meta.specs.Valid.{AllAre}
use Rattle.flac_meta.proofs.Steps.{zeros_are}

pub not_less : (a b : ℕ) → nat_lt a b ≡ false → b ≤ a
not_less a b h = grind (arith, nat_tests)

pub less_not : (a b : ℕ) → b ≤ a → nat_lt a b ≡ false
less_not a b h = grind (arith, nat_tests)

pub is_zero : (n : ℕ) → not (nat_eq n 0) ≡ false → n ≡ 0
is_zero n h = grind (arith, nat_tests)

pub joined_append : (xs ys : List (List Bool)) → joined xs ++ joined ys ≡ joined (xs ++ ys)
joined_append [] ys = refl
joined_append (x ∷ xs) ys = append_assoc x (joined xs) (joined ys) ∙ ap (λ t. x ++ t) (joined_append xs ys)

-- ---- fields of fixed size, of which enough are left

no_part : {A : Type 0} (n : ℕ) (w : Why) (m : Mark) (P : List Bool → A → Type 0) → ForEach (bind (skipped n) (λ _. refuse w)) m P
no_part n w m P = each_part (skipped n) m (λ part x. Unit {0}) (λ text x s. tt)

pub part_each : {A : Type 0} (size left : ℕ) (fields : Layout A) (m : Mark) (P : List Bool → A → Type 0) → (size ≤ left → ForEach fields m P) → ForEach (part size left fields) m P
part_each size left fields m P h = choose_each (nat_lt left size) (bind (skipped (8 * left)) (λ _. refuse BlockLength)) fields m P (λ _. no_part (8 * left) BlockLength m P) (λ e. h (not_less left size e))

pub part_some : {A : Type 0} (size left : ℕ) (fields : Layout A) (m : Mark) (P : List Bool → A → Type 0) → size ≤ left → ForSome fields m P → ForSome (part size left fields) m P
part_some size left fields m P le h = choose_false (nat_lt left size) (bind (skipped (8 * left)) (λ _. refuse BlockLength)) fields m P (less_not left size le) h

-- ---- numbers

pub bits_tie : (n : ℕ) (m : Mark) → Ties (bits n) m (λ v. v < 2 ^ n) (unsigned n)
bits_tie n m = tie (bits n) m (λ v. v < 2 ^ n) (unsigned n) (λ v lt. (lt, refl)) (λ v lt. (v, lt, (refl, refl)))

pub number_32_tie : (left : ℕ) (m : Mark) → Ties (number_32 left) m (λ v. (4 ≤ left) × (v < 2 ^ 32)) (unsigned 32)
unfolding number_32
number_32_tie left m = tie (number_32 left) m (λ v. (4 ≤ left) × (v < 2 ^ 32)) (unsigned 32)
    (part_each 4 left (bits 32) m _ (λ le v lt. ((le, lt), refl)))
    (λ v h. part_some 4 left (bits 32) m _ h.0 (v, h.1, (refl, refl)))

four : (a b c d a' b' c' d' : ℕ) → a' ≡ a → b' ≡ b → c' ≡ c → d' ≡ d
    → joined (unsigned 8 a ∷ unsigned 8 b ∷ unsigned 8 c ∷ unsigned 8 d ∷ []) ≡ joined (unsigned 8 a' ∷ unsigned 8 b' ∷ unsigned 8 c' ∷ unsigned 8 d' ∷ [])
four a b c d a' b' c' d' e f g h = rw (e, f, g, h) refl

pub little_tie : (m : Mark) → Ties little_32 m (λ v. v < 2 ^ 32) little_bits
unfolding little_32 little_bits
little_tie m = tie little_32 m (λ v. v < 2 ^ 32) little_bits
    (λ a la b lb c lc d ld.
    let v : ℕ = a + 256 * b + 65536 * c + 16777216 * d in
    let e : v % 256 ≡ a = omega arith in
    let f : v / 256 % 256 ≡ b = omega arith in
    let g : v / 65536 % 256 ≡ c = omega arith in
    let h : v / 16777216 % 256 ≡ d = omega arith in
    (omega arith, four a b c d (v % 256) (v / 256 % 256) (v / 65536 % 256) (v / 16777216 % 256) e f g h))
    (λ v h.
    (v % 256, omega arith, (v / 256 % 256, omega arith, (v / 65536 % 256, omega arith, (v / 16777216 % 256, omega arith, (refl, omega arith))))))

-- ---- bytes after their number

pub record IsText (left : ℕ) (t : List ℕ) : Type 0 where
  pub fits : 4 + length t ≤ left
  pub few : length t < 2 ^ 32
  pub small : AreBytes t

abbrev pub text_spelling : (ℕ → List Bool) → List ℕ → List Bool
text_spelling spelling t = joined (spelling (length t) ∷ bits_of t ∷ [])

pub sized_tie : (number : Layout ℕ) (spelling : ℕ → List Bool) → ((m : Mark) → Ties number m (λ v. v < 2 ^ 32) spelling) → (left : ℕ) (m : Mark)
    → Ties (sized number left) m (IsText left) (text_spelling spelling)
unfolding sized
sized_tie number spelling numbers left m = tie (sized number left) m (IsText left) (text_spelling spelling)
    (part_each 4 left (bind number (λ size. bind (needs size (left - 4)) (λ _. list_of size (bits 8)))) m _ (λ le.
    each_tied number m (λ v. v < 2 ^ 32) spelling _ (numbers m) (λ size small kept.
    let fits = not_less (left - 4) size kept.0 in
    each_tied (list_of size (bits 8)) (past (spelling size) m) (IsBytes size) bits_of _ (bytes_tie size (past (spelling size) m)) (λ xs v.
    let many = v.many in
    (record { fits = omega arith; few = omega arith; small = v.small }, ap (λ n. spelling n ++ bits_of xs) (sym v.many) ∙ ap (λ b. spelling (length xs) ++ b) (sym (append-nil (bits_of xs))))))))
    (λ t v.
    let fits = v.fits in
    part_some 4 left (bind number (λ size. bind (needs size (left - 4)) (λ _. list_of size (bits 8)))) m _ (omega arith)
    (some_tied number m (λ v. v < 2 ^ 32) spelling _ (length t) (numbers m) v.few (
      (less_not (left - 4) (length t) (omega arith), tt),
      some_tied (list_of (length t) (bits 8)) (past (spelling (length t)) m) (IsBytes (length t)) bits_of _ t (bytes_tie (length t) (past (spelling (length t)) m)) (record { many = refl; small = v.small })
          (ap (λ b. spelling (length t) ++ b) (sym (append-nil (bits_of t))), refl),
    )))

-- ---- zeros

pub reserved_tie : (n : ℕ) (m : Mark) → Ties (reserved n) m (λ _. Unit {0}) (λ _. zero_bits n)
unfolding reserved zeros
reserved_tie n m = tie (reserved n) m (λ _. Unit {0}) (λ _. zero_bits n)
    (λ v lt kept. (tt, zero_text v (is_zero v kept.0)))
    (λ x h. (0, pow n, ((refl, tt), (zero_text 0 refl, refl))))
  where
    zero_text : (v : ℕ) → v ≡ 0 → (unsigned n v ++ []) ++ [] ≡ zero_bits n
    zero_text v e = append-nil (unsigned n v ++ []) ∙ append-nil (unsigned n v) ∙ ap (unsigned n) e ∙ zeros_are n

    pow : (k : ℕ) → 0 < 2 ^ k
    pow k = pow_pos k

-- ---- nothing after the last item

pub nothing_tie : (left : ℕ) (m : Mark) → Ties (nothing_left left) m (λ _. left ≡ 0) (λ _. [])
nothing_tie left m = tie (nothing_left left) m (λ _. left ≡ 0) (λ _. [])
    (λ kept. (is_zero left kept.0, refl))
    (λ x e. ((rw e refl, tt), (refl, refl)))

-- ---- items

abbrev pub InTurn : {S A : Type 0} → (S → A → Type 0) → (S → A → S) → (S → Type 0) → ℕ → S → List A → Type 0
InTurn V next L zero s [] = L s
InTurn V next L zero s (x ∷ xs) = ⊥
InTurn V next L (suc n) s [] = ⊥
InTurn V next L (suc n) s (x ∷ xs) = V s x × InTurn V next L n (next s x) xs

pub turn_tie : {S A : Type 0} (item : S → Layout A) (next : S → A → S) (last : S → Layout ⊤) (V : S → A → Type 0) (L : S → Type 0) (spelling : A → List Bool)
    → ((s : S) (m : Mark) → Ties (item s) m (V s) spelling) → ((s : S) (m : Mark) → Ties (last s) m (λ _. L s) (λ _. [])) → (n : ℕ) (s : S) (m : Mark)
    → Ties (in_turn item next last n s) m (InTurn V next L n s) (each_spelled spelling)
unfolding in_turn each_spelled
turn_tie item next last V L spelling items lasts zero s m = tie (in_turn item next last 0 s) m (InTurn V next L 0 s) (each_spelled spelling)
    (each_tied (last s) m (λ _. L s) (λ _. []) _ (lasts s m) (λ u h. (h, refl)))
    go
  where
    go : (xs : List _) → InTurn V next L 0 s xs → ForSome (in_turn item next last 0 s) m (λ text ys. (text ≡ each_spelled spelling xs) × (ys ≡ xs))
    go [] h = some_tied (last s) m (λ _. L s) (λ _. []) _ tt (lasts s m) h (refl, refl)
    go (x ∷ xs) h = absurd h
turn_tie item next last V L spelling items lasts (suc n) s m = tie (in_turn item next last (suc n) s) m (InTurn V next L (suc n) s) (each_spelled spelling)
    (each_tied (item s) m (V s) spelling _ (items s m) (λ x v.
    each_tied (in_turn item next last n (next s x)) (past (spelling x) m) (InTurn V next L n (next s x)) (each_spelled spelling) _ (turn_tie item next last V L spelling items lasts n (next s x) (past (spelling x) m)) (λ xs w.
    ((v, w), ap (λ t. spelling x ++ t) (append-nil (each_spelled spelling xs))))))
    (go (λ t k. turn_tie item next last V L spelling items lasts n t k))
  where
    go : ((t : _) (k : Mark) → Ties (in_turn item next last n t) k (InTurn V next L n t) (each_spelled spelling)) → (xs : List _) → InTurn V next L (suc n) s xs → ForSome (in_turn item next last (suc n) s) m (λ text ys. (text ≡ each_spelled spelling xs) × (ys ≡ xs))
    go more [] h = absurd h
    go more (x ∷ xs) h = some_tied (item s) m (V s) spelling _ x (items s m) h.0
        (some_tied (in_turn item next last n (next s x)) (past (spelling x) m) (InTurn V next L n (next s x)) (each_spelled spelling) _ xs (more (next s x) (past (spelling x) m)) h.1
        (ap (λ t. spelling x ++ t) (append-nil (each_spelled spelling xs)), refl))

pub record AreMany {A : Type 0} (V : A → Type 0) (n : ℕ) (xs : List A) : Type 0 where
  pub many : length xs ≡ n
  pub all : AllAre V xs

none_left : {A : Type 0} (V : A → Type 0) (xs : List A) → AreMany V 0 xs → [] ≡ xs
none_left V [] h = refl
none_left V (x ∷ xs) h = let e = h.many in absurd (omega arith)

pub list_tie : {A : Type 0} (l : Layout A) (V : A → Type 0) (spelling : A → List Bool) → ((m : Mark) → Ties l m V spelling) → (n : ℕ) (m : Mark)
    → Ties (list_of n l) m (AreMany V n) (each_spelled spelling)
unfolding list_of each_spelled
list_tie l V spelling item zero m = tie (list_of 0 l) m (AreMany V 0) (each_spelled spelling) (record { many = refl; all = tt }, refl)
    (λ xs v. (ap (each_spelled spelling) (none_left V xs v), none_left V xs v))
list_tie l V spelling item (suc n) m = tie (list_of (suc n) l) m (AreMany V (suc n)) (each_spelled spelling)
    (each_tied l m V spelling _ (item m) (λ x v.
    each_tied (list_of n l) (past (spelling x) m) (AreMany V n) (each_spelled spelling) _ (list_tie l V spelling item n (past (spelling x) m)) (λ xs w.
    let e = w.many in
    (record { many = omega arith; all = (v, w.all) }, ap (λ t. spelling x ++ t) (append-nil (each_spelled spelling xs))))))
    (go (λ k. list_tie l V spelling item n k))
  where
    go : ((k : Mark) → Ties (list_of n l) k (AreMany V n) (each_spelled spelling)) → (xs : List _) → AreMany V (suc n) xs → ForSome (list_of (suc n) l) m (λ text ys. (text ≡ each_spelled spelling xs) × (ys ≡ xs))
    go more [] h = let e = h.many in absurd (omega arith)
    go more (x ∷ xs) h = let e = h.many in some_tied l m V spelling _ x (item m) h.all.0
        (some_tied (list_of n l) (past (spelling x) m) (AreMany V n) (each_spelled spelling) _ xs (more (past (spelling x) m)) (record { many = omega arith; all = h.all.1 })
        (ap (λ t. spelling x ++ t) (append-nil (each_spelled spelling xs)), refl))

-- the same forms in other words
pub retie : {A : Type 0} {l : Layout A} {m : Mark} {V : A → Type 0} {spelling : A → List Bool} (W : A → Type 0) → ((x : A) → V x → W x) → ((x : A) → W x → V x) → Ties l m V spelling → Ties l m W spelling
retie W there back t = record {
  only = λ text x s. let o = t.only text x s in (there x o.0, o.1);
  each = λ x w. t.each x (back x w);
}

-- the same spelling in other words
pub respell : {A : Type 0} {l : Layout A} {m : Mark} {V : A → Type 0} {spelling : A → List Bool} (other : A → List Bool) → ((x : A) → spelling x ≡ other x) → Ties l m V spelling → Ties l m V other
respell {l = l} {m = m} other same t = record {
  only = λ text x s. let o = t.only text x s in (o.0, o.1 ∙ same x);
  each = λ x v. subst (λ (k : List Bool). Spells l m k x) (same x) (t.each x v);
}
