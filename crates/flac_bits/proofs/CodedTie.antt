-- The layout of a coded number spells each number in its shortest form.
use Rattle.std.proofs.Common.{◌≡◌, ℕ, zero, suc, ◌+◌, ◌-◌, ◌*◌, ◌/◌, ◌%◌, ◌^◌, ◌<◌, ◌≤◌, ◌&&◌, Bool, true, false, cond, nat_eq, nat_lt, List, [], ◌++◌, Option, Some, None, refl, sym, ap, subst, ◌∙◌, arith}
use Rattle.std.proofs.lemmas.List.{append-nil}
use Rattle.std.proofs.lemmas.Bool.Decides.{nat_tests}
use Rattle.std.proofs.Math.Nat.{pow-suc, div-div-eq-div-mul}
use Rattle.flac_bits.specs.Bits.{unsigned}
use Rattle.flac_bits.specs.State.{Mark, past}
use Rattle.flac_bits.specs.Layout.{Layout, done, refuse, ◌>>=◌, choose}
use Rattle.flac_bits.specs.Number.{lead_form, continued, some_or_bad, number}
use Rattle.flac_bits.specs.Coded.{six_bits, in_bytes, number_spelling, IsNumber, NumbersAreSpelled, NumbersAreReadAgain}
use Rattle.flac_bits.specs.Meaning.{Spells}
use Rattle.flac_bits.proofs.Meaning.{again}
use Rattle.flac_bits.specs.inner.Forms.{Ties}
use Rattle.flac_bits.specs.declared.why.Why.TheVariants.{BadNumber}
use Rattle.flac_bits.proofs.Ties.{ForEach, ForSome, tie, each_tied, some_tied, choose_each, choose_true, choose_false}

by_test : {A : Type 0} (b : Bool) (x y : A) (Q : A → Type 0) → (b ≡ true → Q x) → (b ≡ false → Q y) → Q (cond b x y)
by_test true x y Q f g = f refl
by_test false x y Q f g = g refl

next_six : (n v : ℕ) → v / 64 ^ suc n ≡ v / 64 ^ n / 64
next_six n v = ap (λ k. v / k) (pow-suc 64 n) ∙ sym (div-div-eq-div-mul v (64 ^ n) 64)

is_test : (b : ℕ) → b / 64 ≡ 2 → nat_eq (b / 64) 2 ≡ true
is_test b h = grind (arith, nat_tests)

was_test : (b : ℕ) → nat_eq b 2 ≡ true → b ≡ 2
was_test b h = grind (arith, nat_tests)

byte_is : (byte a value : ℕ) → byte / 64 ≡ 2 → a ≡ 64 * value + byte % 64 → byte ≡ 128 + a % 64
byte_is byte a value h e = omega arith

high_is : (byte a value : ℕ) → a ≡ 64 * value + byte % 64 → a / 64 ≡ value
high_is byte a value e = omega arith

six_again : (a value : ℕ) → a / 64 ≡ value → a ≡ 64 * value + (128 + a % 64) % 64
six_again a value e = omega arith

six_small : (a : ℕ) → 128 + a % 64 < 256
six_small a = omega arith

six_two : (a : ℕ) → (128 + a % 64) / 64 ≡ 2
six_two a = omega arith

over_one : (x : ℕ) → x / 64 ^ 0 ≡ x
over_one x = omega arith

pub continued_tie : (n high : ℕ) (m : Mark) → Ties (continued n high) m (λ v. v / 64 ^ n ≡ high) (six_bits n)
unfolding continued six_bits
continued_tie zero high m = tie (continued 0 high) m (λ v. v / 64 ^ 0 ≡ high) (six_bits 0) (over_one high, refl) (λ x v. (refl, sym v ∙ over_one x))
continued_tie (suc n) high m = tie (continued (suc n) high) m (λ v. v / 64 ^ suc n ≡ high) (six_bits (suc n))
    (λ byte lt. choose_each (nat_eq (byte / 64) 2) (continued n (64 * high + byte % 64)) (refuse BadNumber) (past (unsigned 8 byte) m)
    (λ rest v. (v / 64 ^ suc n ≡ high) × (unsigned 8 byte ++ rest ≡ six_bits (suc n) v))
    (λ test. each_tied (continued n (64 * high + byte % 64)) (past (unsigned 8 byte) m) (λ v. v / 64 ^ n ≡ 64 * high + byte % 64) (six_bits n) _ (continued_tie n (64 * high + byte % 64) (past (unsigned 8 byte) m))
    (λ v e. (next_six n v ∙ high_is byte (v / 64 ^ n) high e, ap (λ b. unsigned 8 b ++ six_bits n v) (byte_is byte (v / 64 ^ n) high (was_test (byte / 64) test) e))))
    (λ test. tt))
    (λ x v.
    let byte = 128 + x / 64 ^ n % 64 in
    let e : x / 64 ^ n ≡ 64 * high + byte % 64 = six_again (x / 64 ^ n) high (sym (next_six n x) ∙ v) in (
      byte,
      six_small (x / 64 ^ n),
      choose_true (nat_eq (byte / 64) 2) (continued n (64 * high + byte % 64)) (refuse BadNumber) (past (unsigned 8 byte) m)
          (λ rest y. (unsigned 8 byte ++ rest ≡ six_bits (suc n) x) × (y ≡ x)) (is_test byte (six_two (x / 64 ^ n)))
          (some_tied (continued n (64 * high + byte % 64)) (past (unsigned 8 byte) m) (λ y. y / 64 ^ n ≡ 64 * high + byte % 64) (six_bits n) _ x (continued_tie n (64 * high + byte % 64) (past (unsigned 8 byte) m)) e (refl, refl)),
    ))

-- what follows a lead byte of n bytes
abbrev pub after_lead : ℕ × ℕ × ℕ → Layout ℕ
after_lead form = do
  value ← continued form.0 form.1
  choose (nat_lt value form.2) (refuse BadNumber) (done value)

not_less : (a b : ℕ) → nat_lt a b ≡ false → b ≤ a
not_less a b h = grind (arith, nat_tests)

less : (a b : ℕ) → nat_lt a b ≡ true → a < b
less a b h = grind (arith, nat_tests)

is_less : (a b : ℕ) → a < b → nat_lt a b ≡ true
is_less a b h = grind (arith, nat_tests)

is_not_less : (a b : ℕ) → b ≤ a → nat_lt a b ≡ false
is_not_less a b h = grind (arith, nat_tests)

each_form : (n high least : ℕ) (m : Mark) (P : List Bool → ℕ → Type 0) → ((x : ℕ) → x / 64 ^ n ≡ high → least ≤ x → P (six_bits n x ++ []) x) → ForEach (after_lead (n, high, least)) m P
each_form n high least m P h = each_tied (continued n high) m (λ v. v / 64 ^ n ≡ high) (six_bits n) _ (continued_tie n high m)
    (λ x e. choose_each (nat_lt x least) (refuse BadNumber) (done x) (past (six_bits n x) m) (λ rest y. P (six_bits n x ++ rest) y) (λ test. tt) (λ test. h x e (not_less x least test)))

some_form : (n high least x : ℕ) (m : Mark) (P : List Bool → ℕ → Type 0) → x / 64 ^ n ≡ high → least ≤ x → P (six_bits n x ++ []) x → ForSome (after_lead (n, high, least)) m P
some_form n high least x m P e le h = some_tied (continued n high) m (λ v. v / 64 ^ n ≡ high) (six_bits n) _ x (continued_tie n high m) e
    (choose_false (nat_lt x least) (refuse BadNumber) (done x) (past (six_bits n x) m) (λ rest y. P (six_bits n x ++ rest) y) (is_not_less x least le) h)

abbrev some_form_of : ℕ × ℕ × ℕ → Option (ℕ × ℕ × ℕ)
some_form_of form = Some form

small_number : (max_bits x : ℕ) → x < 2 ^ 31 → IsNumber max_bits x
small_number max_bits x h = go (nat_lt 31 max_bits)
  where
    go : (b : Bool) → x < cond b (2 ^ 36) (2 ^ 31)
    go true = omega arith
    go false = omega arith

large_number : (max_bits x : ℕ) → nat_lt 31 max_bits ≡ true → x < 2 ^ 36 → IsNumber max_bits x
large_number max_bits x e h = rw e h

number_large : (max_bits x : ℕ) → IsNumber max_bits x → 2 ^ 31 ≤ x → (nat_lt 31 max_bits ≡ true) × (x < 2 ^ 36)
number_large max_bits x h le = go (nat_lt 31 max_bits) refl h
  where
    go : (b : Bool) → nat_lt 31 max_bits ≡ b → x < cond b (2 ^ 36) (2 ^ 31) → (nat_lt 31 max_bits ≡ true) × (x < 2 ^ 36)
    go true e h = (e, h)
    go false e h = absurd (omega arith)

both : (a b : Bool) → (a && b) ≡ true → (a ≡ true) × (b ≡ true)
both true b e = (refl, e)
both false b e = absurd (two e)
  where
    two : false ≡ true → ⊥
    two e = absurd cc

pub spelled_0 : (x : ℕ) → x < 2 ^ 7 → number_spelling x ≡ unsigned 8 x
unfolding number_spelling
spelled_0 x h = rw (is_less x 128 h) refl

pub spelled_1 : (x : ℕ) → 2 ^ 7 ≤ x → x < 2 ^ 11 → number_spelling x ≡ in_bytes 192 1 x
unfolding number_spelling
spelled_1 x a b = rw (is_not_less x 128 (omega arith), is_less x 2048 b) refl

pub spelled_2 : (x : ℕ) → 2 ^ 11 ≤ x → x < 2 ^ 16 → number_spelling x ≡ in_bytes 224 2 x
unfolding number_spelling
spelled_2 x a b = rw (is_not_less x 128 (omega arith), is_not_less x 2048 (omega arith), is_less x 65536 b) refl

pub spelled_3 : (x : ℕ) → 2 ^ 16 ≤ x → x < 2 ^ 21 → number_spelling x ≡ in_bytes 240 3 x
unfolding number_spelling
spelled_3 x a b = rw (is_not_less x 128 (omega arith), is_not_less x 2048 (omega arith), is_not_less x 65536 (omega arith), is_less x 2097152 b) refl

pub spelled_4 : (x : ℕ) → 2 ^ 21 ≤ x → x < 2 ^ 26 → number_spelling x ≡ in_bytes 248 4 x
unfolding number_spelling
spelled_4 x a b = rw (is_not_less x 128 (omega arith), is_not_less x 2048 (omega arith), is_not_less x 65536 (omega arith), is_not_less x 2097152 (omega arith), is_less x 67108864 b) refl

pub spelled_5 : (x : ℕ) → 2 ^ 26 ≤ x → x < 2 ^ 31 → number_spelling x ≡ in_bytes 252 5 x
unfolding number_spelling
spelled_5 x a b = rw (is_not_less x 128 (omega arith), is_not_less x 2048 (omega arith), is_not_less x 65536 (omega arith), is_not_less x 2097152 (omega arith), is_not_less x 67108864 (omega arith), is_less x 2147483648 b) refl

pub spelled_6 : (x : ℕ) → 2 ^ 31 ≤ x → number_spelling x ≡ in_bytes 254 6 x
unfolding number_spelling
spelled_6 x a = rw (is_not_less x 128 (omega arith), is_not_less x 2048 (omega arith), is_not_less x 65536 (omega arith), is_not_less x 2097152 (omega arith), is_not_less x 67108864 (omega arith), is_not_less x 2147483648 (omega arith)) refl

form_1 : (max_bits h : ℕ) → h < 32 → lead_form max_bits (192 + h) ≡ Some (1, h, 2 ^ 7)
unfolding lead_form
form_1 max_bits h lt = rw (is_not_less (192 + h) 192 (omega arith), is_less (192 + h) 224 (omega arith)) (ap (λ j. some_form_of (1, j, 128)) (omega arith))

form_2 : (max_bits h : ℕ) → h < 16 → lead_form max_bits (224 + h) ≡ Some (2, h, 2 ^ 11)
unfolding lead_form
form_2 max_bits h lt = rw (is_not_less (224 + h) 192 (omega arith), is_not_less (224 + h) 224 (omega arith), is_less (224 + h) 240 (omega arith)) (ap (λ j. some_form_of (2, j, 2048)) (omega arith))

form_3 : (max_bits h : ℕ) → h < 8 → lead_form max_bits (240 + h) ≡ Some (3, h, 2 ^ 16)
unfolding lead_form
form_3 max_bits h lt = rw (is_not_less (240 + h) 192 (omega arith), is_not_less (240 + h) 224 (omega arith), is_not_less (240 + h) 240 (omega arith), is_less (240 + h) 248 (omega arith)) (ap (λ j. some_form_of (3, j, 65536)) (omega arith))

form_4 : (max_bits h : ℕ) → h < 4 → lead_form max_bits (248 + h) ≡ Some (4, h, 2 ^ 21)
unfolding lead_form
form_4 max_bits h lt = rw (is_not_less (248 + h) 192 (omega arith), is_not_less (248 + h) 224 (omega arith), is_not_less (248 + h) 240 (omega arith), is_not_less (248 + h) 248 (omega arith), is_less (248 + h) 252 (omega arith)) (ap (λ j. some_form_of (4, j, 2097152)) (omega arith))

form_5 : (max_bits h : ℕ) → h < 2 → lead_form max_bits (252 + h) ≡ Some (5, h, 2 ^ 26)
unfolding lead_form
form_5 max_bits h lt = rw (is_not_less (252 + h) 192 (omega arith), is_not_less (252 + h) 224 (omega arith), is_not_less (252 + h) 240 (omega arith), is_not_less (252 + h) 248 (omega arith), is_not_less (252 + h) 252 (omega arith), is_less (252 + h) 254 (omega arith)) (ap (λ j. some_form_of (5, j, 67108864)) (omega arith))

form_6 : (max_bits : ℕ) → nat_lt 31 max_bits ≡ true → lead_form max_bits 254 ≡ Some (6, 0, 2 ^ 31)
unfolding lead_form
form_6 max_bits e = rw e refl

each_lead : (max_bits lead base n high least : ℕ) (m : Mark) → lead ≡ base + high → ((x : ℕ) → x / 64 ^ n ≡ high → least ≤ x → IsNumber max_bits x × (number_spelling x ≡ in_bytes base n x))
    → ForEach (after_lead (n, high, least)) m (λ rest x. IsNumber max_bits x × (unsigned 8 lead ++ rest ≡ number_spelling x))
each_lead max_bits lead base n high least m l h = each_form n high least m (λ rest x. IsNumber max_bits x × (unsigned 8 lead ++ rest ≡ number_spelling x)) (λ x e le.
    let k = h x e le in
    (k.0, ap (λ t. unsigned 8 lead ++ t) (append-nil (six_bits n x)) ∙ ap (λ b. unsigned 8 b ++ six_bits n x) (l ∙ ap (λ j. base + j) (sym e)) ∙ sym k.1))

some_lead : (max_bits base n high least x : ℕ) (m : Mark) → 128 ≤ base + high → base + high < 256 → lead_form max_bits (base + high) ≡ Some (n, high, least) → x / 64 ^ n ≡ high → least ≤ x → number_spelling x ≡ in_bytes base n x
    → ForSome (number max_bits) m (λ text y. (text ≡ number_spelling x) × (y ≡ x))
unfolding number
some_lead max_bits base n high least x m big small form e le spelled =
    let lead = base + high in
    let m' = past (unsigned 8 lead) m in
    let P : List Bool → ℕ → Type 0 = λ rest y. (unsigned 8 lead ++ rest ≡ number_spelling x) × (y ≡ x) in (
      lead,
      small,
      choose_false (nat_lt lead 128) (done lead) (some_or_bad (lead_form max_bits lead) >>= after_lead) m' P (is_not_less lead 128 big)
          (subst (λ o. ForSome (some_or_bad o >>= after_lead) m' P) (sym form)
          (some_form n high least x m' P e le (ap (λ t. unsigned 8 lead ++ t) (append-nil (six_bits n x)) ∙ ap (λ b. unsigned 8 (base + b) ++ six_bits n x) (sym e) ∙ sym spelled, refl))),
    )

top_1 : (x h : ℕ) → x / 64 ^ 1 ≡ h → h < 32 → x < 2 ^ 11
top_1 x h e lt = omega arith

high_1 : (x : ℕ) → x < 2 ^ 11 → x / 64 ^ 1 < 32
high_1 x lt = omega arith

top_2 : (x h : ℕ) → x / 64 ^ 2 ≡ h → h < 16 → x < 2 ^ 16
top_2 x h e lt = omega arith

high_2 : (x : ℕ) → x < 2 ^ 16 → x / 64 ^ 2 < 16
high_2 x lt = omega arith

top_3 : (x h : ℕ) → x / 64 ^ 3 ≡ h → h < 8 → x < 2 ^ 21
top_3 x h e lt = omega arith

high_3 : (x : ℕ) → x < 2 ^ 21 → x / 64 ^ 3 < 8
high_3 x lt = omega arith

top_4 : (x h : ℕ) → x / 64 ^ 4 ≡ h → h < 4 → x < 2 ^ 26
top_4 x h e lt = omega arith

high_4 : (x : ℕ) → x < 2 ^ 26 → x / 64 ^ 4 < 4
high_4 x lt = omega arith

top_5 : (x h : ℕ) → x / 64 ^ 5 ≡ h → h < 2 → x < 2 ^ 31
top_5 x h e lt = omega arith

high_5 : (x : ℕ) → x < 2 ^ 31 → x / 64 ^ 5 < 2
high_5 x lt = omega arith

top_6 : (x h : ℕ) → x / 64 ^ 6 ≡ h → h < 1 → x < 2 ^ 36
top_6 x h e lt = omega arith

high_6 : (x : ℕ) → x < 2 ^ 36 → x / 64 ^ 6 < 1
high_6 x lt = omega arith

eq_254 : (lead : ℕ) → nat_eq lead 254 ≡ true → lead ≡ 254 + 0
eq_254 lead h = grind (arith, nat_tests)

number_only : (max_bits : ℕ) (m : Mark) → ForEach (number max_bits) m (λ text x. IsNumber max_bits x × (text ≡ number_spelling x))
unfolding number lead_form
number_only max_bits m = λ lead lt.
    let m' = past (unsigned 8 lead) m in
    let P : List Bool → ℕ → Type 0 = λ rest x. IsNumber max_bits x × (unsigned 8 lead ++ rest ≡ number_spelling x) in
    let Q : Option (ℕ × ℕ × ℕ) → Type 0 = λ o. ForEach (some_or_bad o >>= after_lead) m' P in
    choose_each (nat_lt lead 128) (done lead) (some_or_bad (lead_form max_bits lead) >>= after_lead) m' P
    (λ test. (small_number max_bits lead (omega (arith, less lead 128 test)), append-nil (unsigned 8 lead) ∙ sym (spelled_0 lead (less lead 128 test))))
    (λ test. by_test (nat_lt lead 192) None _ Q (λ t. tt) (λ f192.
    by_test (nat_lt lead 224) (Some (1, lead - 192, 128)) _ Q
    (λ t. each_lead max_bits lead 192 1 (lead - 192) 128 m' (omega (arith, not_less lead 192 f192))
    (λ x e le. let top : x < 2 ^ 11 = top_1 x (lead - 192) e (omega (arith, less lead 224 t)) in (small_number max_bits x (omega arith), spelled_1 x le top)))
    (λ f224.
    by_test (nat_lt lead 240) (Some (2, lead - 224, 2048)) _ Q
    (λ t. each_lead max_bits lead 224 2 (lead - 224) 2048 m' (omega (arith, not_less lead 224 f224))
    (λ x e le. let top : x < 2 ^ 16 = top_2 x (lead - 224) e (omega (arith, less lead 240 t)) in (small_number max_bits x (omega arith), spelled_2 x le top)))
    (λ f240.
    by_test (nat_lt lead 248) (Some (3, lead - 240, 65536)) _ Q
    (λ t. each_lead max_bits lead 240 3 (lead - 240) 65536 m' (omega (arith, not_less lead 240 f240))
    (λ x e le. let top : x < 2 ^ 21 = top_3 x (lead - 240) e (omega (arith, less lead 248 t)) in (small_number max_bits x (omega arith), spelled_3 x le top)))
    (λ f248.
    by_test (nat_lt lead 252) (Some (4, lead - 248, 2097152)) _ Q
    (λ t. each_lead max_bits lead 248 4 (lead - 248) 2097152 m' (omega (arith, not_less lead 248 f248))
    (λ x e le. let top : x < 2 ^ 26 = top_4 x (lead - 248) e (omega (arith, less lead 252 t)) in (small_number max_bits x (omega arith), spelled_4 x le top)))
    (λ f252.
    by_test (nat_lt lead 254) (Some (5, lead - 252, 67108864)) _ Q
    (λ t. each_lead max_bits lead 252 5 (lead - 252) 67108864 m' (omega (arith, not_less lead 252 f252))
    (λ x e le. let top : x < 2 ^ 31 = top_5 x (lead - 252) e (omega (arith, less lead 254 t)) in (small_number max_bits x (omega arith), spelled_5 x le top)))
    (λ f254.
    by_test (nat_eq lead 254 && nat_lt 31 max_bits) (Some (6, 0, 2 ^ 31)) None Q
    (λ t. let ts = both (nat_eq lead 254) (nat_lt 31 max_bits) t in each_lead max_bits lead 254 6 0 (2 ^ 31) m' (eq_254 lead ts.0)
    (λ x e le. (large_number max_bits x ts.1 (top_6 x 0 e (omega arith)), spelled_6 x le)))
    (λ t. tt))))))))

either : (b : Bool) (Q : Type 0) → (b ≡ true → Q) → (b ≡ false → Q) → Q
either true Q f g = f refl
either false Q f g = g refl

number_some : (max_bits : ℕ) (m : Mark) (x : ℕ) → IsNumber max_bits x → ForSome (number max_bits) m (λ text y. (text ≡ number_spelling x) × (y ≡ x))
unfolding number
number_some max_bits m x v =
    let Q = ForSome (number max_bits) m (λ text y. (text ≡ number_spelling x) × (y ≡ x)) in
    either (nat_lt x 128) Q
    (λ t. let lt = less x 128 t in (
      x,
      omega arith,
      choose_true (nat_lt x 128) (done x) (some_or_bad (lead_form max_bits x) >>= after_lead) (past (unsigned 8 x) m)
          (λ rest y. (unsigned 8 x ++ rest ≡ number_spelling x) × (y ≡ x)) t (append-nil (unsigned 8 x) ∙ sym (spelled_0 x lt), refl),
    ))
    (λ f1. let le1 : 128 ≤ x = not_less x 128 f1 in either (nat_lt x 2048) Q
    (λ t. let lt : x < 2048 = less x 2048 t in let h = high_1 x lt in some_lead max_bits 192 1 (x / 64 ^ 1) 128 x m (omega arith) (omega arith) (form_1 max_bits (x / 64 ^ 1) h) refl le1 (spelled_1 x le1 lt))
    (λ f2. let le2 : 2048 ≤ x = not_less x 2048 f2 in either (nat_lt x 65536) Q
    (λ t. let lt : x < 65536 = less x 65536 t in let h = high_2 x lt in some_lead max_bits 224 2 (x / 64 ^ 2) 2048 x m (omega arith) (omega arith) (form_2 max_bits (x / 64 ^ 2) h) refl le2 (spelled_2 x le2 lt))
    (λ f3. let le3 : 65536 ≤ x = not_less x 65536 f3 in either (nat_lt x 2097152) Q
    (λ t. let lt : x < 2097152 = less x 2097152 t in let h = high_3 x lt in some_lead max_bits 240 3 (x / 64 ^ 3) 65536 x m (omega arith) (omega arith) (form_3 max_bits (x / 64 ^ 3) h) refl le3 (spelled_3 x le3 lt))
    (λ f4. let le4 : 2097152 ≤ x = not_less x 2097152 f4 in either (nat_lt x 67108864) Q
    (λ t. let lt : x < 67108864 = less x 67108864 t in let h = high_4 x lt in some_lead max_bits 248 4 (x / 64 ^ 4) 2097152 x m (omega arith) (omega arith) (form_4 max_bits (x / 64 ^ 4) h) refl le4 (spelled_4 x le4 lt))
    (λ f5. let le5 : 67108864 ≤ x = not_less x 67108864 f5 in either (nat_lt x 2147483648) Q
    (λ t. let lt : x < 2147483648 = less x 2147483648 t in let h = high_5 x lt in some_lead max_bits 252 5 (x / 64 ^ 5) 67108864 x m (omega arith) (omega arith) (form_5 max_bits (x / 64 ^ 5) h) refl le5 (spelled_5 x le5 lt))
    (λ f6. let le6 : 2147483648 ≤ x = not_less x 2147483648 f6 in let large = number_large max_bits x v le6 in let h = high_6 x large.1 in
    let zero_is : x / 64 ^ 6 ≡ 0 = omega arith in some_lead max_bits 254 6 0 (2 ^ 31) x m (omega arith) (omega arith) (form_6 max_bits large.0) zero_is le6 (spelled_6 x le6)))))))

pub number_tie : (max_bits : ℕ) (m : Mark) → Ties (number max_bits) m (IsNumber max_bits) number_spelling
number_tie max_bits m = tie (number max_bits) m (IsNumber max_bits) number_spelling (number_only max_bits m) (number_some max_bits m)

-- ---- for the writer

pub no_groups : (v : ℕ) → v ≡ v / 64 ^ 0
no_groups v = omega arith

pub one_group_more : (v i : ℕ) → v / 64 ^ i / 64 ≡ v / 64 ^ (i + 1)
one_group_more v i =
    let e : i + 1 ≡ suc i = omega arith in
    rw e (sym (next_six i v))

pub groups_rest : (n i v : ℕ) → i < n → six_bits (n - i) v ≡ unsigned 8 (128 + v / 64 ^ (n - (i + 1)) % 64) ++ six_bits (n - (i + 1)) v
unfolding six_bits
groups_rest n i v lt =
    let e : n - i ≡ suc (n - (i + 1)) = omega arith in
    rw e refl

pub no_groups_rest : (n i v : ℕ) → n ≤ i → six_bits (n - i) v ≡ []
unfolding six_bits
no_groups_rest n i v le =
    let e : n - i ≡ 0 = omega arith in
    rw e refl

pub fits_1 : (x : ℕ) → x < 2 ^ 11 → 0xC0 + x / 64 ^ 1 < 256
fits_1 x lt = omega arith

pub fits_2 : (x : ℕ) → x < 2 ^ 16 → 0xE0 + x / 64 ^ 2 < 256
fits_2 x lt = omega arith

pub fits_3 : (x : ℕ) → x < 2 ^ 21 → 0xF0 + x / 64 ^ 3 < 256
fits_3 x lt = omega arith

pub fits_4 : (x : ℕ) → x < 2 ^ 26 → 0xF8 + x / 64 ^ 4 < 256
fits_4 x lt = omega arith

pub fits_5 : (x : ℕ) → x < 2 ^ 31 → 0xFC + x / 64 ^ 5 < 256
fits_5 x lt = omega arith

pub fits_6 : (x : ℕ) → x < 2 ^ 36 → 0xFE + x / 64 ^ 6 < 256
fits_6 x lt = omega arith

pub numbers_spelled : NumbersAreSpelled
numbers_spelled max_bits v m text = (
  (number_tie max_bits m).only text v,
  λ good. subst (λ (t : List Bool). Spells (number max_bits) m t v) (sym good.1) ((number_tie max_bits m).each v good.0),
)

pub numbers_again : NumbersAreReadAgain
numbers_again max_bits v m rest good = again (number max_bits) m (number_spelling v) rest v ((number_tie max_bits m).each v good)
