-- Samples that fit a depth.
use Rattle.std.proofs.Common.{◌&&◌, ◌≡◌, ◌↔◌, ℕ, ◌+◌, ◌-◌, ◌*◌, ◌/◌, ◌^◌, ◌<◌, ◌≤◌, ℤ, pos, negsuc, Bool, true, false, cond, List, [], ◌∷◌, ◌++◌, length, take, get_or, set, nat_eq, FitsSigned, w32, refl, sym, ap, ◌∙◌, arith}
use Rattle.std.proofs.lemmas.Bool.{ltb-true, lt-ltb}
use Rattle.std.proofs.lemmas.Int.{ints}
use Rattle.std.specs.Prelude.{bit_or}
use Rattle.std.specs.List.{list_all}
use Rattle.std.proofs.lemmas.Bool.Decides.{nat_tests}
use Rattle.std.proofs.lemmas.Nat.{le_or_l, le_or_r, or_lt, pow_pos}
use Rattle.std.proofs.lemmas.List.{take_all, take_more, take_more_set}
use Rattle.std.proofs.Math.Nat.{pow-le-pow_right, div-eq_of_lt, lt-div-mul-add}
use Rattle.flac_bits.specs.Signed.{FitsBits}
use Rattle.flac_subframe.specs.format.Numbers.{fits, all_fit}

-- the test, and what it says
pub fits-to : (n : ℕ) (z : ℤ) → fits n z ≡ true → FitsBits n z
fits-to n (pos a) h = let lt : a < 2 ^ (n - 1) = ltb-true a (2 ^ (n - 1)) h in record { low = omega (arith, ints); high = omega (arith, ints, lt) }
fits-to n (negsuc a) h = let lt : a < 2 ^ (n - 1) = ltb-true a (2 ^ (n - 1)) h in record { low = omega (arith, ints, lt); high = omega (arith, ints) }

fits-from : (n : ℕ) (z : ℤ) → FitsBits n z → fits n z ≡ true
fits-from n (pos a) f = lt-ltb a (2 ^ (n - 1)) (omega (arith, ints, f.high))
fits-from n (negsuc a) f = lt-ltb a (2 ^ (n - 1)) (omega (arith, ints, f.low))

-- what is left of a number in offset binary, without its lowest bits
pub none_over : (n a : ℕ) (z : ℤ) → (a < 2 ^ n) ↔ FitsBits n z → a / 2 ^ n ≡ 0 → fits n z ≡ true
none_over n a z is e =
    let lt : a < 0 * 2 ^ n + 2 ^ n = rw e at (lt-div-mul-add {a = a} {b = 2 ^ n} (pow_pos n)) in
    fits-from n z (is.0 (omega (arith, lt)))

pub over_none : (n a : ℕ) (z : ℤ) → (a < 2 ^ n) ↔ FitsBits n z → fits n z ≡ true → a / 2 ^ n ≡ 0
over_none n a z is h = div-eq_of_lt (is.1 (fits-to n z h))

up : (n : ℕ) → n ≤ 32 → 2 ^ (n - 1) ≤ 2 ^ 31
up n few = pow-le-pow_right {n = 2} (omega arith) {i = n - 1} {j = 31} (omega arith)

-- a sample that fits is kept by a cast to 32 bits
pub kept_32 : (n : ℕ) (z : ℤ) → n ≤ 32 → fits n z ≡ true → FitsSigned w32 z
kept_32 n (pos a) few h = omega (arith, ints, ltb-true a (2 ^ (n - 1)) h, up n few)
kept_32 n (negsuc a) few h = omega (arith, ints, ltb-true a (2 ^ (n - 1)) h, up n few)

pub all_fit-append : (n : ℕ) (xs ys : List ℤ) → all_fit n (xs ++ ys) ≡ cond (all_fit n xs) (all_fit n ys) false
all_fit-append n [] ys = refl
all_fit-append n (x ∷ xs) ys = go (fits n x) (all_fit-append n xs ys)
  where
    go : (b : Bool) → all_fit n (xs ++ ys) ≡ cond (all_fit n xs) (all_fit n ys) false → cond b (all_fit n (xs ++ ys)) false ≡ cond (cond b (all_fit n xs) false) (all_fit n ys) false
    go true e = e
    go false e = refl

-- one sample more
pub fit_more : (n : ℕ) (xs : List ℤ) (i : ℕ) → i < length xs → all_fit n (take i xs) ≡ true → fits n (get_or xs i (pos 0)) ≡ true → all_fit n (take (i + 1) xs) ≡ true
fit_more n xs i lt h k = rw (take_more xs i (pos 0) lt, all_fit-append n (take i xs) (get_or xs i (pos 0) ∷ []), h, k) refl

pub fit_less : (n : ℕ) (xs : List ℤ) (i : ℕ) → i < length xs → all_fit n (take (i + 1) xs) ≡ true → (all_fit n (take i xs) ≡ true) × (fits n (get_or xs i (pos 0)) ≡ true)
fit_less n xs i lt h =
    let one = get_or xs i (pos 0) in
    let more : all_fit n (take (i + 1) xs) ≡ cond (all_fit n (take i xs)) (cond (fits n one) true false) false =
    ap (all_fit n) (take_more xs i (pos 0) lt) ∙ all_fit-append n (take i xs) (one ∷ []) in
    both (all_fit n (take i xs)) (fits n one) (sym more ∙ h)
  where
    both : (a b : Bool) → cond a (cond b true false) false ≡ true → (a ≡ true) × (b ≡ true)
    both true true e = (refl, refl)
    both true false e = absurd cc
    both false b e = absurd cc

pub put_more : (xs out : List ℤ) (i : ℕ) (value : ℤ) → i < length xs → length out ≡ length xs → take i out ≡ take i xs → value ≡ get_or xs i (pos 0)
    → take (i + 1) (set out i value) ≡ take (i + 1) xs
put_more xs out i value lt long same is =
    take_more_set out i value (omega (arith, long, lt)) ∙ (ap (λ k. k ++ value ∷ []) same ∙ ap (λ z. take i xs ++ z ∷ []) is) ∙ sym (take_more xs i (pos 0) lt)

-- two numbers have no bit from a place on exactly if their union has none
below : (n a : ℕ) → a / 2 ^ n ≡ 0 → a < 2 ^ n
below n a e =
    let lt : a < 0 * 2 ^ n + 2 ^ n = rw e at (lt-div-mul-add {a = a} {b = 2 ^ n} (pow_pos n)) in
    omega (arith, lt)

pub none_left : (n a b : ℕ) → bit_or a b / 2 ^ n ≡ 0 → (a / 2 ^ n ≡ 0) × (b / 2 ^ n ≡ 0)
none_left n a b e =
    let lt = below n (bit_or a b) e in
    (div-eq_of_lt (omega (arith, le_or_l a b, lt)), div-eq_of_lt (omega (arith, le_or_r a b, lt)))

pub none_both : (n a b : ℕ) → a / 2 ^ n ≡ 0 → b / 2 ^ n ≡ 0 → bit_or a b / 2 ^ n ≡ 0
none_both n a b e f = div-eq_of_lt (or_lt n a b (below n a e) (below n b f))

-- one sample more of a channel, where nothing is wrong
pub side_more : (depth : ℕ) (xs out : List ℤ) (i : ℕ) (x low : ℤ) → depth ≤ 32 → i < length xs → length out ≡ length xs → x ≡ get_or xs i (pos 0) → fits depth x ≡ true → (FitsSigned w32 x → low ≡ x)
    → all_fit depth (take i xs) ≡ true → take i out ≡ take i xs → (all_fit depth (take (i + 1) xs) ≡ true) × (take (i + 1) (set out i low) ≡ take (i + 1) xs)
side_more depth xs out i x low few lt long is good kept fit same =
    (fit_more depth xs i lt fit (ap (fits depth) (sym is) ∙ good), put_more xs out i low lt long same (kept (kept_32 depth x few good) ∙ is))

differ : false ≡ true → ⊥
differ e = cc

not_zero : (n : ℕ) → (n ≡ 0 → ⊥) → nat_eq n 0 ≡ false
not_zero n h = grind (arith, nat_tests, h)

-- the judgement on two channels
pub judged : (wrong : ℕ) (p q : Bool) → (wrong ≡ 0 → (p ≡ true) × (q ≡ true)) → (p ≡ true → q ≡ true → wrong ≡ 0) → nat_eq wrong 0 ≡ cond p (cond q true false) false
judged wrong true true none some = rw (some refl refl) refl
judged wrong true false none some = not_zero wrong (λ e. differ ((none e).1))
judged wrong false q none some = not_zero wrong (λ e. differ ((none e).0))

-- the two ways to say that all fit
pub all_fit_each : (n : ℕ) (xs : List ℤ) → all_fit n xs ≡ list_all (fits n) xs
all_fit_each n [] = refl
all_fit_each n (x ∷ xs) = go (fits n x) (all_fit_each n xs)
  where
    go : (b : Bool) → all_fit n xs ≡ list_all (fits n) xs → cond b (all_fit n xs) false ≡ (b && list_all (fits n) xs)
    go true e = e
    go false e = refl

-- none is wrong exactly if all fit
pub none_wrong : (n wrong i : ℕ) (xs : List ℤ) → length xs ≤ i → (wrong ≡ 0 → all_fit n (take i xs) ≡ true) → (all_fit n (take i xs) ≡ true → wrong ≡ 0) → nat_eq wrong 0 ≡ list_all (fits n) xs
none_wrong n wrong i xs over none some = go (all_fit n (take i xs)) none some ∙ ap (all_fit n) (take_all i xs over) ∙ all_fit_each n xs
  where
    go : (b : Bool) → (wrong ≡ 0 → b ≡ true) → (b ≡ true → wrong ≡ 0) → nat_eq wrong 0 ≡ b
    go true none some = rw (some refl) refl
    go false none some = not_zero wrong (λ e. differ (none e))
