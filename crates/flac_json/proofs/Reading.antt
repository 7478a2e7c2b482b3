-- A text of JSON is that of one value.
use Rattle.std.proofs.Common.{◌≡◌, ◌<◌, ◌≤◌, ◌+◌, ◌/◌, ◌%◌, ◌^◌, ◌||◌, ℕ, Bool, true, false, cond, nat_eq, nat_lt, List, [], ◌∷◌, ◌++◌, length, codes, decimal, ap, refl, sym, subst, ◌∙◌, append_assoc, arith}
use Rattle.std.proofs.lemmas.Fmt.{decimal_by_steps, decimal_nonempty, decimal_injective}
use Rattle.flac_json.specs.Texts.{is_special, hex_digit, hex_digits, escape, escapes, quoted, all_digits}
use Rattle.flac_json.specs.Json.{Json, number, text, truth, array, object, Items, no_items, item, Members, no_members, member, json_text, items_text, more_items, members_text, more_members, AreSmall, AreSmallItems, AreSmallMembers, TextsHaveOneReading}

-- ---- what lists begin with

abbrev first_of : List ℕ → ℕ
first_of [] = 0
first_of (x ∷ xs) = x

abbrev others_of : List ℕ → List ℕ
others_of [] = []
others_of (x ∷ xs) = xs

pub firsts : {a b : ℕ} {x y : List ℕ} → a ∷ x ≡ b ∷ y → (a ≡ b) × (x ≡ y)
firsts p = (ap first_of p, ap others_of p)

-- ---- texts

pub same_digit : (m n : ℕ) → hex_digit m ≡ hex_digit n → m ≡ n
same_digit m n is = grind (arith, is)

-- a byte of a text, before others
abbrev escape_by : (special : Bool) → ℕ → List ℕ
escape_by special byte = cond special (codes "\\u00" ++ hex_digits byte) (byte ∷ [])

pub special_one : (a b : ℕ) (x y : List ℕ) → hex_digits a ++ x ≡ hex_digits b ++ y → (a ≡ b) × (x ≡ y)
special_one a b x y is =
    let high = firsts is in
    let low = firsts high.1 in
    let h : a / 16 ≡ b / 16 = same_digit (a / 16) (b / 16) high.0 in
    let l : a % 16 ≡ b % 16 = same_digit (a % 16) (b % 16) low.0 in
    (omega (arith, h, l), low.1)

not_special : {X : Type 0} (b : ℕ) → 92 ≡ b → is_special b ≡ false → X
not_special b is plain = absurd (let t : true ≡ false = ap is_special is ∙ plain in cc)

escape_one_by : (p q : Bool) (a b : ℕ) (x y : List ℕ) → is_special a ≡ p → is_special b ≡ q → escape_by p a ++ x ≡ escape_by q b ++ y → (a ≡ b) × (x ≡ y)
escape_one_by false false a b x y pa qb is = firsts is
escape_one_by true false a b x y pa qb is = not_special b (firsts is).0 qb
escape_one_by false true a b x y pa qb is = not_special a (sym (firsts is).0) pa
escape_one_by true true a b x y pa qb is = special_one a b x y (firsts (firsts (firsts (firsts is).1).1).1).1

escape_one : (a b : ℕ) (x y : List ℕ) → escape a ++ x ≡ escape b ++ y → (a ≡ b) × (x ≡ y)
escape_one a b x y is = escape_one_by (is_special a) (is_special b) a b x y refl refl is

-- an escape does not begin with a quotation mark
no_quote_by : {X : Type 0} (q : Bool) (b : ℕ) (x y : List ℕ) → is_special b ≡ q → 34 ∷ x ≡ escape_by q b ++ y → X
no_quote_by true b x y qb is = absurd (let e = (firsts is).0 in omega (arith, e))
no_quote_by false b x y qb is = absurd (let t : true ≡ false = ap is_special (firsts is).0 ∙ qb in cc)

no_quote : {X : Type 0} (b : ℕ) (bs x y : List ℕ) → 34 ∷ x ≡ (escape b ++ escapes bs) ++ y → X
no_quote b bs x y is = no_quote_by (is_special b) b x (escapes bs ++ y) refl (is ∙ append_assoc (escape b) (escapes bs) y)

texts_one : (a b : List ℕ) (x y : List ℕ) → escapes a ++ 34 ∷ x ≡ escapes b ++ 34 ∷ y → (a ≡ b) × (x ≡ y)
texts_one [] [] x y is = (refl, (firsts is).1)
texts_one [] (b ∷ bs) x y is = no_quote b bs x (34 ∷ y) is
texts_one (a ∷ rest) [] x y is = no_quote a rest y (34 ∷ x) (sym is)
texts_one (a ∷ rest) (b ∷ bs) x y is =
    let one = escape_one a b (escapes rest ++ 34 ∷ x) (escapes bs ++ 34 ∷ y) (sym (append_assoc (escape a) (escapes rest) (34 ∷ x)) ∙ is ∙ append_assoc (escape b) (escapes bs) (34 ∷ y)) in
    let more = texts_one rest bs x y one.1 in
    (ap (λ k. k ∷ rest) one.0 ∙ ap (λ l. b ∷ l) more.0, more.1)

quoted_one : (a b : List ℕ) (x y : List ℕ) → quoted a ++ x ≡ quoted b ++ y → (a ≡ b) × (x ≡ y)
quoted_one a b x y is = texts_one a b x y (sym (append_assoc (escapes a) (34 ∷ []) x) ∙ (firsts is).1 ∙ append_assoc (escapes b) (34 ∷ []) y)

-- ---- numbers

abbrev AreDigits : List ℕ → Type 0
AreDigits [] = Unit {0}
AreDigits (d ∷ ds) = (48 ≤ d) × (d ≤ 57) × AreDigits ds

digits_more : (ds : List ℕ) (d : ℕ) → AreDigits ds → 48 ≤ d → d ≤ 57 → AreDigits (ds ++ d ∷ [])
digits_more [] d are low high = (low, high, tt)
digits_more (e ∷ ds) d are low high = (are.0, are.1, digits_more ds d are.2 low high)

are_digits : (n : ℕ) → n < 2 ^ 64 → AreDigits (decimal n)
are_digits = decimal_by_steps (λ n ds. AreDigits ds) (λ n few. (omega arith, omega (arith, few), tt)) (λ n ds many are. digits_more ds (48 + n % 10) are (omega arith) (omega arith))

abbrev NoDigit : ℕ → Type 0
NoDigit p = 48 ≤ p → p ≤ 57 → ⊥

digits_one : (a b : List ℕ) (p q : ℕ) (x y : List ℕ) → AreDigits a → AreDigits b → NoDigit p → NoDigit q → a ++ p ∷ x ≡ b ++ q ∷ y → (a ≡ b) × (p ∷ x ≡ q ∷ y)
digits_one [] [] p q x y da db np nq is = (refl, is)
digits_one [] (b ∷ bs) p q x y da db np nq is = absurd (let e = (firsts is).0 in np (omega (arith, e, db.0)) (omega (arith, e, db.1)))
digits_one (a ∷ rest) [] p q x y da db np nq is = absurd (let e = (firsts is).0 in nq (omega (arith, e, da.0)) (omega (arith, e, da.1)))
digits_one (a ∷ rest) (b ∷ bs) p q x y da db np nq is =
    let f = firsts is in
    let more = digits_one rest bs p q x y da.2 db.2 np nq f.1 in
    (ap (λ k. k ∷ rest) f.0 ∙ ap (λ l. b ∷ l) more.0, more.1)

-- ---- what a value begins with

-- the kind of a value whose text begins with this byte; 5 if none does
abbrev class_of : ℕ → ℕ
class_of c = cond (nat_lt c 48 || nat_lt 57 c) (cond (nat_eq c 34) 1 (cond (nat_eq c 116 || nat_eq c 102) 2 (cond (nat_eq c 91) 3 (cond (nat_eq c 123) 4 5)))) 0

abbrev kind_of : Json → ℕ
kind_of (number n) = 0
kind_of (text t) = 1
kind_of (truth b) = 2
kind_of (array s) = 3
kind_of (object s) = 4

record Starts (v : Json) : Type 0 where
  by : ℕ
  then_comes : List ℕ
  is : json_text v ≡ by ∷ then_comes
  class : class_of by ≡ kind_of v

record Digits (l : List ℕ) : Type 0 where
  by : ℕ
  then_comes : List ℕ
  is : l ≡ by ∷ then_comes
  class : class_of by ≡ 0

digit_class : (c : ℕ) → 48 ≤ c → c ≤ 57 → class_of c ≡ 0
digit_class c low high = grind (arith, low, high)

digits_start : (l : List ℕ) → AreDigits l → 0 < length l → Digits l
digits_start [] are some = absurd (omega (arith, some))
digits_start (d ∷ ds) are some = record { by = d; then_comes = ds; is = refl; class = digit_class d are.0 are.1 }

starts : (v : Json) → AreSmall v → Starts v
starts (number n) small =
    let d = digits_start (decimal n) (are_digits n small) (decimal_nonempty n small) in
    record { by = d.by; then_comes = d.then_comes; is = d.is; class = d.class }
starts (text t) small = record { by = 34; then_comes = escapes t ++ codes "\""; is = refl; class = refl }
starts (truth true) small = record { by = 116; then_comes = codes "rue"; is = refl; class = refl }
starts (truth false) small = record { by = 102; then_comes = codes "alse"; is = refl; class = refl }
starts (array s) small = record { by = 91; then_comes = items_text s ++ codes "]"; is = refl; class = refl }
starts (object s) small = record { by = 123; then_comes = members_text s ++ codes "}"; is = refl; class = refl }

same_kind : (a b : Json) (x y : List ℕ) → AreSmall a → AreSmall b → json_text a ++ x ≡ json_text b ++ y → kind_of a ≡ kind_of b
same_kind a b x y sa sb is =
    let s = starts a sa in
    let t = starts b sb in
    sym s.class ∙ ap class_of (firsts (ap (λ l. l ++ x) (sym s.is) ∙ is ∙ ap (λ l. l ++ y) t.is)).0 ∙ t.class

-- no value begins with a closing bracket
kind_small : (v : Json) → kind_of v ≤ 4
kind_small (number n) = omega arith
kind_small (text t) = omega arith
kind_small (truth b) = omega arith
kind_small (array s) = omega arith
kind_small (object s) = omega arith

no_end : {X : Type 0} (v : Json) (c : ℕ) (x y more : List ℕ) → class_of c ≡ 5 → AreSmall v → c ∷ x ≡ (json_text v ++ more) ++ y → X
no_end v c x y more five small is =
    let s = starts v small in
    let e : class_of c ≡ kind_of v = ap class_of (firsts (is ∙ ap (λ l. (l ++ more) ++ y) s.is)).0 ∙ s.class in
    let few = kind_small v in
    absurd (omega (arith, e, five, few))

-- ---- what comes after an item or a member, before the bracket that closes the list

no_10 : NoDigit 10
no_10 low high = omega (arith, low)

no_44 : NoDigit 44
no_44 low high = omega (arith, low)

no_93 : NoDigit 93
no_93 low high = omega (arith, high)

no_125 : NoDigit 125
no_125 low high = omega (arith, high)

differ : {X : Type 0} {a b : ℕ} {x y : List ℕ} → (a ≡ b → ⊥) → a ∷ x ≡ b ∷ y → X
differ never is = absurd (never (firsts is).0)

record Begins (l : List ℕ) : Type 0 where
  by : ℕ
  then_comes : List ℕ
  is : l ≡ by ∷ then_comes
  never : NoDigit by

items_begin : (s : Items) (x : List ℕ) → Begins (more_items s ++ 93 ∷ x)
items_begin no_items x = record { by = 93; then_comes = x; is = refl; never = no_93 }
items_begin (item v s) x = record { by = 44; then_comes = (json_text v ++ more_items s) ++ 93 ∷ x; is = refl; never = no_44 }

members_begin : (s : Members) (x : List ℕ) → Begins (more_members s ++ 125 ∷ x)
members_begin no_members x = record { by = 125; then_comes = x; is = refl; never = no_125 }
members_begin (member n v s) x = record { by = 44; then_comes = ((quoted n ++ (codes ":" ++ json_text v)) ++ more_members s) ++ 125 ∷ x; is = refl; never = no_44 }

-- ---- values

truth_one : (a b : Bool) (x y : List ℕ) → json_text (truth a) ++ x ≡ json_text (truth b) ++ y → (truth a ≡ truth b) × (x ≡ y)
truth_one true true x y is = (refl, (firsts (firsts (firsts (firsts is).1).1).1).1)
truth_one false false x y is = (refl, (firsts (firsts (firsts (firsts (firsts is).1).1).1).1).1)
truth_one true false x y is = differ (λ e. omega (arith, e)) is
truth_one false true x y is = differ (λ e. omega (arith, e)) is

-- what one value, before what is no digit, is read as
abbrev Reads : Json → Json → Type 0
Reads v w = (p q : ℕ) (x y : List ℕ) → NoDigit p → NoDigit q → json_text v ++ p ∷ x ≡ json_text w ++ q ∷ y → (v ≡ w) × (p ∷ x ≡ q ∷ y)

-- a value before others
before : (v w : Json) (b c : List ℕ) → Reads v w → Begins b → Begins c → json_text v ++ b ≡ json_text w ++ c → (v ≡ w) × (b ≡ c)
before v w b c one s t is =
    let r = one s.by t.by s.then_comes t.then_comes s.never t.never (ap (λ l. json_text v ++ l) (sym s.is) ∙ is ∙ ap (λ l. json_text w ++ l) t.is) in
    (r.0, s.is ∙ r.1 ∙ sym t.is)

-- a list between brackets, before others
inner : (l m : List ℕ) (e : ℕ) (x y : List ℕ) → (l ++ e ∷ []) ++ x ≡ (m ++ e ∷ []) ++ y → l ++ e ∷ x ≡ m ++ e ∷ y
inner l m e x y is = sym (append_assoc l (e ∷ []) x) ∙ is ∙ append_assoc m (e ∷ []) y

-- a member before others
named : (m n : List ℕ) (v w : Json) (a b x y : List ℕ) → ((quoted m ++ (codes ":" ++ json_text v)) ++ a) ++ x ≡ ((quoted n ++ (codes ":" ++ json_text w)) ++ b) ++ y
    → (m ≡ n) × (json_text v ++ (a ++ x) ≡ json_text w ++ (b ++ y))
named m n v w a b x y is =
    let one = quoted_one m n (58 ∷ ((json_text v ++ a) ++ x)) (58 ∷ ((json_text w ++ b) ++ y)) (sym (flat m v a x) ∙ is ∙ flat n w b y) in
    (one.0, sym (append_assoc (json_text v) a x) ∙ (firsts one.1).1 ∙ append_assoc (json_text w) b y)
  where
    flat : (m : List ℕ) (v : Json) (a x : List ℕ) → ((quoted m ++ (codes ":" ++ json_text v)) ++ a) ++ x ≡ quoted m ++ (58 ∷ ((json_text v ++ a) ++ x))
    flat m v a x = ap (λ l. l ++ x) (append_assoc (quoted m) (58 ∷ json_text v) a) ∙ append_assoc (quoted m) (58 ∷ (json_text v ++ a)) x

mutual
  json_one : (v w : Json) → AreSmall v → AreSmall w → (p q : ℕ) (x y : List ℕ) → NoDigit p → NoDigit q → json_text v ++ p ∷ x ≡ json_text w ++ q ∷ y → (v ≡ w) × (p ∷ x ≡ q ∷ y)
  json_one (number n) (number m) fa fb p q x y np nq is =
      let one = digits_one (decimal n) (decimal m) p q x y (are_digits n fa) (are_digits m fb) np nq is in
      (ap number (decimal_injective n m fa fb one.0), one.1)
  json_one (number n) (text u) fa fb p q x y np nq is = absurd (let e = same_kind (number n) (text u) (p ∷ x) (q ∷ y) fa fb is in omega (arith, e))
  json_one (number n) (truth c) fa fb p q x y np nq is = absurd (let e = same_kind (number n) (truth c) (p ∷ x) (q ∷ y) fa fb is in omega (arith, e))
  json_one (number n) (array z) fa fb p q x y np nq is = absurd (let e = same_kind (number n) (array z) (p ∷ x) (q ∷ y) fa fb is in omega (arith, e))
  json_one (number n) (object z) fa fb p q x y np nq is = absurd (let e = same_kind (number n) (object z) (p ∷ x) (q ∷ y) fa fb is in omega (arith, e))
  json_one (text t) (number m) fa fb p q x y np nq is = absurd (let e = same_kind (text t) (number m) (p ∷ x) (q ∷ y) fa fb is in omega (arith, e))
  json_one (text t) (text u) fa fb p q x y np nq is = let one = quoted_one t u (p ∷ x) (q ∷ y) is in (ap text one.0, one.1)
  json_one (text t) (truth c) fa fb p q x y np nq is = absurd (let e = same_kind (text t) (truth c) (p ∷ x) (q ∷ y) fa fb is in omega (arith, e))
  json_one (text t) (array z) fa fb p q x y np nq is = absurd (let e = same_kind (text t) (array z) (p ∷ x) (q ∷ y) fa fb is in omega (arith, e))
  json_one (text t) (object z) fa fb p q x y np nq is = absurd (let e = same_kind (text t) (object z) (p ∷ x) (q ∷ y) fa fb is in omega (arith, e))
  json_one (truth b) (number m) fa fb p q x y np nq is = absurd (let e = same_kind (truth b) (number m) (p ∷ x) (q ∷ y) fa fb is in omega (arith, e))
  json_one (truth b) (text u) fa fb p q x y np nq is = absurd (let e = same_kind (truth b) (text u) (p ∷ x) (q ∷ y) fa fb is in omega (arith, e))
  json_one (truth b) (truth c) fa fb p q x y np nq is = truth_one b c (p ∷ x) (q ∷ y) is
  json_one (truth b) (array z) fa fb p q x y np nq is = absurd (let e = same_kind (truth b) (array z) (p ∷ x) (q ∷ y) fa fb is in omega (arith, e))
  json_one (truth b) (object z) fa fb p q x y np nq is = absurd (let e = same_kind (truth b) (object z) (p ∷ x) (q ∷ y) fa fb is in omega (arith, e))
  json_one (array s) (number m) fa fb p q x y np nq is = absurd (let e = same_kind (array s) (number m) (p ∷ x) (q ∷ y) fa fb is in omega (arith, e))
  json_one (array s) (text u) fa fb p q x y np nq is = absurd (let e = same_kind (array s) (text u) (p ∷ x) (q ∷ y) fa fb is in omega (arith, e))
  json_one (array s) (truth c) fa fb p q x y np nq is = absurd (let e = same_kind (array s) (truth c) (p ∷ x) (q ∷ y) fa fb is in omega (arith, e))
  json_one (array s) (array z) fa fb p q x y np nq is = let one = items_one s z (p ∷ x) (q ∷ y) fa fb (inner (items_text s) (items_text z) 93 (p ∷ x) (q ∷ y) (firsts is).1) in (ap array one.0, one.1)
  json_one (array s) (object z) fa fb p q x y np nq is = absurd (let e = same_kind (array s) (object z) (p ∷ x) (q ∷ y) fa fb is in omega (arith, e))
  json_one (object s) (number m) fa fb p q x y np nq is = absurd (let e = same_kind (object s) (number m) (p ∷ x) (q ∷ y) fa fb is in omega (arith, e))
  json_one (object s) (text u) fa fb p q x y np nq is = absurd (let e = same_kind (object s) (text u) (p ∷ x) (q ∷ y) fa fb is in omega (arith, e))
  json_one (object s) (truth c) fa fb p q x y np nq is = absurd (let e = same_kind (object s) (truth c) (p ∷ x) (q ∷ y) fa fb is in omega (arith, e))
  json_one (object s) (array z) fa fb p q x y np nq is = absurd (let e = same_kind (object s) (array z) (p ∷ x) (q ∷ y) fa fb is in omega (arith, e))
  json_one (object s) (object z) fa fb p q x y np nq is = let one = members_one s z (p ∷ x) (q ∷ y) fa fb (inner (members_text s) (members_text z) 125 (p ∷ x) (q ∷ y) (firsts is).1) in (ap object one.0, one.1)

  items_one : (s z : Items) (x y : List ℕ) → AreSmallItems s → AreSmallItems z → items_text s ++ 93 ∷ x ≡ items_text z ++ 93 ∷ y → (s ≡ z) × (x ≡ y)
  items_one no_items no_items x y fa fb is = (refl, (firsts is).1)
  items_one no_items (item w z) x y fa fb is = no_end w 93 x (93 ∷ y) (more_items z) refl fb.0 is
  items_one (item v s) no_items x y fa fb is = no_end v 93 y (93 ∷ x) (more_items s) refl fa.0 (sym is)
  items_one (item v s) (item w z) x y fa fb is =
      let one = before v w (more_items s ++ 93 ∷ x) (more_items z ++ 93 ∷ y) (json_one v w fa.0 fb.0) (items_begin s x) (items_begin z y)
      (sym (append_assoc (json_text v) (more_items s) (93 ∷ x)) ∙ is ∙ append_assoc (json_text w) (more_items z) (93 ∷ y)) in
      let more = more_one s z x y fa.1 fb.1 one.1 in
      (ap (λ k. item k s) one.0 ∙ ap (λ k. item w k) more.0, more.1)

  more_one : (s z : Items) (x y : List ℕ) → AreSmallItems s → AreSmallItems z → more_items s ++ 93 ∷ x ≡ more_items z ++ 93 ∷ y → (s ≡ z) × (x ≡ y)
  more_one no_items no_items x y fa fb is = (refl, (firsts is).1)
  more_one no_items (item w z) x y fa fb is = differ (λ e. omega (arith, e)) is
  more_one (item v s) no_items x y fa fb is = differ (λ e. omega (arith, e)) is
  more_one (item v s) (item w z) x y fa fb is =
      let one = before v w (more_items s ++ 93 ∷ x) (more_items z ++ 93 ∷ y) (json_one v w fa.0 fb.0) (items_begin s x) (items_begin z y)
      (sym (append_assoc (json_text v) (more_items s) (93 ∷ x)) ∙ (firsts is).1 ∙ append_assoc (json_text w) (more_items z) (93 ∷ y)) in
      let more = more_one s z x y fa.1 fb.1 one.1 in
      (ap (λ k. item k s) one.0 ∙ ap (λ k. item w k) more.0, more.1)

  members_one : (s z : Members) (x y : List ℕ) → AreSmallMembers s → AreSmallMembers z → members_text s ++ 125 ∷ x ≡ members_text z ++ 125 ∷ y → (s ≡ z) × (x ≡ y)
  members_one no_members no_members x y fa fb is = (refl, (firsts is).1)
  members_one no_members (member n w z) x y fa fb is = differ (λ e. omega (arith, e)) is
  members_one (member m v s) no_members x y fa fb is = differ (λ e. omega (arith, e)) is
  members_one (member m v s) (member n w z) x y fa fb is =
      let name = named m n v w (more_members s) (more_members z) (125 ∷ x) (125 ∷ y) is in
      let one = before v w (more_members s ++ 125 ∷ x) (more_members z ++ 125 ∷ y) (json_one v w fa.0 fb.0) (members_begin s x) (members_begin z y) name.1 in
      let more = more_members_one s z x y fa.1 fb.1 one.1 in
      (ap (λ k. member k v s) name.0 ∙ ap (λ k. member n k s) one.0 ∙ ap (λ k. member n w k) more.0, more.1)

  more_members_one : (s z : Members) (x y : List ℕ) → AreSmallMembers s → AreSmallMembers z → more_members s ++ 125 ∷ x ≡ more_members z ++ 125 ∷ y → (s ≡ z) × (x ≡ y)
  more_members_one no_members no_members x y fa fb is = (refl, (firsts is).1)
  more_members_one no_members (member n w z) x y fa fb is = differ (λ e. omega (arith, e)) is
  more_members_one (member m v s) no_members x y fa fb is = differ (λ e. omega (arith, e)) is
  more_members_one (member m v s) (member n w z) x y fa fb is =
      let name = named m n v w (more_members s) (more_members z) (125 ∷ x) (125 ∷ y) (firsts is).1 in
      let one = before v w (more_members s ++ 125 ∷ x) (more_members z ++ 125 ∷ y) (json_one v w fa.0 fb.0) (members_begin s x) (members_begin z y) name.1 in
      let more = more_members_one s z x y fa.1 fb.1 one.1 in
      (ap (λ k. member k v s) name.0 ∙ ap (λ k. member n k s) one.0 ∙ ap (λ k. member n w k) more.0, more.1)

pub texts_have_one_reading : TextsHaveOneReading
texts_have_one_reading a b fa fb is = (json_one a b fa fb 10 10 [] [] no_10 no_10 (ap (λ l. l ++ 10 ∷ []) is)).0
