-- One step through the digits of a word, the words of a line and the lines of a list of predictors, and the end of
-- each.
use Rattle.std.proofs.Common.{◌≡◌, ◌≢◌, ◌+◌, ◌-◌, ◌*◌, ◌<◌, ◌≤◌, ◌⊎◌, ℕ, ℤ, pos, negsuc, Bool, true, false, cond, ltb, List, [], ◌∷◌, ◌++◌, length, take, drop, get_or, take_all, Option, Some, None, MatchOption, Ok, Err, inl, inr, refl, sym, ap, ◌∙◌, subst, arith}
use Rattle.std.specs.Prelude.{◌==◌, nat_lt}
use Rattle.std.specs.List.{All, AllPass, position_or_len, before_first, enumerate_from, filter, slice_split}
use Rattle.std.proofs.lemmas.Bool.{cases_lt, cond-true, cond-false, eqb-true, eqb-false, lt-ltb, le-ltb, ltb-true, and_parts, false_from_ne_true}
use Rattle.std.proofs.lemmas.Int.{ints}
use Rattle.std.proofs.lemmas.List.{at_drop_more, at_drop_all}
use Rattle.std.proofs.lemmas.List.FromFn.{length-enumerate_from, get_or-enumerate_from}
use Rattle.std.proofs.lemmas.List.Sums.{AllPass-from_list_all, list_all-from_AllPass}
use Rattle.std.proofs.lemmas.Bool.Decides.{nat_tests}
use Rattle.flac_bits.specs.Signed.{FitsBits}
use Rattle.flac_subframe.specs.format.Bodies.{Chooses, linear}
use Rattle.flac_cli.specs.Predictors.{is_blank, digits_after, natural_in, number_in, numbers_after, fits, is_predictor, natural, predictor_with, line_of, line_in, lines_after}

-- ---- digits

pub digits-next : (w : List ℕ) (i n byte : ℕ) → i < length w → get_or w i 0 ≡ byte → 48 ≤ byte → byte ≤ 57 → n < 10000 →
    digits_after n (drop i w) ≡ digits_after (n * 10 + (byte - 48)) (drop (i + 1) w)
unfolding digits_after
digits-next w i n byte within is low high small =
    at_drop_more (digits_after n) w i 0 within
    ∙ (rw is (rw (lt-ltb 47 byte (omega arith)) (rw (lt-ltb byte 58 (omega arith)) (rw (lt-ltb n 10000 small) refl))))

pub digits-none : (w : List ℕ) (i n byte : ℕ) → i < length w → get_or w i 0 ≡ byte → (byte < 48) ⊎ ((57 < byte) ⊎ (10000 ≤ n)) →
    digits_after n (drop i w) ≡ None
unfolding digits_after
digits-none w i n byte within is wrong =
    at_drop_more (digits_after n) w i 0 within ∙ (rw is (grind (arith, nat_tests)))

pub digits-end : (w : List ℕ) (i n : ℕ) → length w ≤ i → digits_after n (drop i w) ≡ Some n
unfolding digits_after
digits-end w i n end = at_drop_all (digits_after n) w i end

pub natural-read : (w : List ℕ) (r : Option ℕ) → 0 < length w → digits_after 0 w ≡ r → natural_in w ≡ r
natural-read w r some e = rw (lt-ltb 0 (length w) some) e

-- ---- words

-- what a call of `position` tells of the part before the first that passes
pub before-position : (p : ℕ → Bool) (xs : List ℕ) (r : Option ℕ) →
    r ≡ cond (ltb (position_or_len p xs) (length xs)) (Some (position_or_len p xs)) None →
    MatchOption r (xs ≡ before_first p xs) (λ i. take i xs ≡ before_first p xs)
before-position p xs r e = elim (cases_lt (position_or_len p xs) (length xs)) [
  | inl below ↦ let is : r ≡ Some (position_or_len p xs) = e ∙ cond-true _ _ _ (lt-ltb _ _ below) in rw is refl
  | inr above ↦ let is : r ≡ None = e ∙ cond-false _ _ _ (le-ltb _ _ above) in rw is (sym (take_all _ _ above))
]

-- the parts of a line between blanks, of which some are empty, and those that are words
abbrev pub parts_of : (line : List ℕ) → List (List ℕ)
parts_of line = slice_split is_blank (before_first (λ byte. byte == 35) line)

abbrev pub words_in : List (List ℕ) → List (List ℕ)
words_in parts = filter (λ word. nat_lt 0 (length word)) parts

pub no_bytes : (n : ℕ) (b : Bool) → b ≡ (n == 0) → b ≡ true → n ≡ 0
no_bytes n b is e = eqb-true n 0 (sym is ∙ e)

pub some_bytes : (n : ℕ) (b : Bool) → b ≡ (n == 0) → b ≡ false → 0 < n
some_bytes n b is e = let h : n ≢ 0 = eqb-false n 0 (sym is ∙ e) in omega (arith, h)

pub empty-next : (ws : List (List ℕ)) (i : ℕ) (w : List ℕ) (ns : List ℤ) → i < length ws → w ≡ get_or ws i w → length w ≡ 0 →
    numbers_after ns (words_in (drop i ws)) ≡ numbers_after ns (words_in (drop (i + 1) ws))
empty-next ws i w ns within is none =
    at_drop_more (λ l. numbers_after ns (words_in l)) ws i w within ∙ (rw (sym is) (rw none refl))

pub numbers-next : (ws : List (List ℕ)) (i : ℕ) (w : List ℕ) (ns : List ℤ) (z : ℤ) → i < length ws → w ≡ get_or ws i w → 0 < length w → number_in w ≡ Some z →
    numbers_after ns (words_in (drop i ws)) ≡ numbers_after (ns ++ z ∷ []) (words_in (drop (i + 1) ws))
unfolding numbers_after
numbers-next ws i w ns z within is some e =
    at_drop_more (λ l. numbers_after ns (words_in l)) ws i w within ∙ (rw (sym is) (rw (lt-ltb 0 (length w) some) (rw e refl)))

pub numbers-none : (ws : List (List ℕ)) (i : ℕ) (w : List ℕ) (ns : List ℤ) → i < length ws → w ≡ get_or ws i w → 0 < length w → number_in w ≡ None →
    numbers_after ns (words_in (drop i ws)) ≡ None
unfolding numbers_after
numbers-none ws i w ns within is some e =
    at_drop_more (λ l. numbers_after ns (words_in l)) ws i w within ∙ (rw (sym is) (rw (lt-ltb 0 (length w) some) (rw e refl)))

pub numbers-end : (ws : List (List ℕ)) (i : ℕ) (ns : List ℤ) → length ws ≤ i → numbers_after ns (words_in (drop i ws)) ≡ Some ns
unfolding numbers_after
numbers-end ws i ns end = at_drop_all (λ l. numbers_after ns (words_in l)) ws i end

-- ---- lines

fits-from : (precision : ℕ) (z : ℤ) → FitsBits precision z → fits precision z ≡ true
fits-from precision (pos n) h = lt-ltb _ _ (omega (arith, ints, h.high))
fits-from precision (negsuc n) h = lt-ltb _ _ (omega (arith, ints, h.low))

fits-to : (precision : ℕ) (z : ℤ) → fits precision z ≡ true → FitsBits precision z
fits-to precision (pos n) h = let small = ltb-true _ _ h in record { low = omega (arith, ints); high = omega (arith, ints) }
fits-to precision (negsuc n) h = let small = ltb-true _ _ h in record { low = omega (arith, ints); high = omega (arith, ints) }

-- what is asked of the fields of a predictor
abbrev pub AreFields : (precision shift : ℕ) → (coefficients : List ℤ) → Type 0
AreFields precision shift coefficients =
    (1 ≤ precision) × (precision ≤ 15) × (shift ≤ 15) × (0 < length coefficients) × (length coefficients ≤ 32) × All (FitsBits precision) coefficients

fields-from : (precision shift : ℕ) (cs : List ℤ) → AreFields precision shift cs → is_predictor precision shift cs ≡ true
unfolding is_predictor
fields-from precision shift cs h =
    rw (lt-ltb 0 precision (omega (arith, h.0)))
    (rw (lt-ltb precision 16 (omega (arith, h.1)))
    (rw (lt-ltb shift 16 (omega (arith, h.2)))
    (rw (lt-ltb 0 (length cs) h.3)
    (rw (lt-ltb (length cs) 33 (omega (arith, h.4)))
    (list_all-from_AllPass (fits precision) cs (λ k d within. fits-from precision _ (h.5 k d within)))))))

fields-to : (precision shift : ℕ) (cs : List ℤ) → is_predictor precision shift cs ≡ true → AreFields precision shift cs
unfolding is_predictor
fields-to precision shift cs h =
    let a = and_parts _ _ h in
    let b = and_parts _ _ a.1 in
    let c = and_parts _ _ b.1 in
    let d = and_parts _ _ c.1 in
    let e = and_parts _ _ d.1 in
    let some : 0 < precision = ltb-true _ _ a.0 in
    let few : precision < 16 = ltb-true _ _ b.0 in
    let small : shift < 16 = ltb-true _ _ c.0 in
    let any : 0 < length cs = ltb-true _ _ d.0 in
    let most : length cs < 33 = ltb-true _ _ e.0 in
    let all : AllPass (fits precision) cs = AllPass-from_list_all (fits precision) cs e.1 in
    (omega arith, omega arith, omega arith, any, omega arith, λ k z within. fits-to precision _ (all k z within))

pub predictor-made : (precision shift : ℕ) (cs : List ℤ) → AreFields precision shift cs → predictor_with precision shift cs ≡ Some (linear precision shift cs ∷ [])
predictor-made precision shift cs h = rw (fields-from precision shift cs h) refl

pub predictor-none : (precision shift : ℕ) (cs : List ℤ) → (AreFields precision shift cs → ⊥) → predictor_with precision shift cs ≡ None
predictor-none precision shift cs h = rw (false_from_ne_true _ (λ e. h (fields-to precision shift cs e))) refl

pub line-read : (all : List ℤ) (precision shift : ℕ) (r : Option (List Chooses)) → 2 ≤ length all → natural (get_or all 0 (pos 0)) ≡ Some precision → natural (get_or all 1 (pos 0)) ≡ Some shift →
    predictor_with precision shift (take (length all - 2) (drop 2 all)) ≡ r → line_of all ≡ r
line-read [] precision shift r two p s e = absurd (omega arith)
line-read (y ∷ []) precision shift r two p s e = absurd (omega arith)
line-read (y ∷ z ∷ cs) precision shift r two p s e =
    let a : natural y ≡ Some precision = p in
    let b : natural z ≡ Some shift = s in
    rw a (rw b (subst (λ l. predictor_with precision shift l ≡ r) (take_all (length (y ∷ z ∷ cs) - 2) cs (omega arith)) e))

pub lines-next : (ls : List (List ℕ)) (i n : ℕ) (l : List ℕ) (found new : List Chooses) → i < length ls → l ≡ get_or ls i l → line_in l ≡ Some new →
    lines_after n found (drop i ls) ≡ lines_after (n + 1) (found ++ new) (drop (i + 1) ls)
unfolding lines_after
lines-next ls i n l found new within is e =
    at_drop_more (lines_after n found) ls i l within ∙ (rw (sym is) (rw (e, lines_after) refl))

pub lines-wrong : (ls : List (List ℕ)) (i n : ℕ) (l : List ℕ) (found : List Chooses) → i < length ls → l ≡ get_or ls i l → line_in l ≡ None →
    lines_after n found (drop i ls) ≡ Err n
unfolding lines_after
lines-wrong ls i n l found within is e =
    at_drop_more (lines_after n found) ls i l within ∙ (rw (sym is) (rw (e, lines_after) refl))

pub lines-end : (ls : List (List ℕ)) (i n : ℕ) (found : List Chooses) → length ls ≤ i → lines_after n found (drop i ls) ≡ Ok found
unfolding lines_after
lines-end ls i n found end = at_drop_all (lines_after n found) ls i end

-- the item of an enumerated list at a place is that place, and the item there
pub numbered : (ls : List (List ℕ)) (i n : ℕ) (l : List ℕ) → i < length (enumerate_from 0 ls) → (n, l) ≡ get_or (enumerate_from 0 ls) i (n, l) →
    (i < length ls) × (n ≡ i) × (l ≡ get_or ls i l)
numbered ls i n l within is =
    let inside : i < length ls = omega (arith, within, length-enumerate_from 0 ls) in
    let e = is ∙ get_or-enumerate_from 0 ls i (n, l) inside in
    (inside, omega (arith, ap (λ p. p.0) e), ap (λ p. p.1) e)
