-- Tags at the end of an input.
use Rattle.std.proofs.Common.{◌≡◌, ◌≤◌, ◌<◌, ◌+◌, ◌-◌, ◌++◌, ◌∷◌, [], ℕ, Bool, true, false, List, length, take, drop, refl, ap, ◌∙◌, arith}
use Rattle.std.specs.Prelude.{cond, nat_eq, ◌&&◌, eqb, codes}
use Rattle.std.specs.List.{starts_with}
use Rattle.std.proofs.lemmas.List.{length-append}
use Rattle.std.proofs.Math.Seq.{drop-append-add, take-append-add}
use Rattle.flac_around.specs.Around.{last_128, all_but_128, is_back, without_back}
use Rattle.flac_around.specs.Coming.{given}

pub none_dropped : (xs : List ℕ) → drop 0 xs ≡ xs
none_dropped [] = refl
none_dropped (x ∷ xs) = refl

pub none_taken : (bytes : List ℕ) → take 0 bytes ≡ []
none_taken [] = refl
none_taken (x ∷ xs) = refl

no_number : (a b : ℕ) → a < b → nat_eq a b ≡ false
no_number a b lt = grind (arith, lt)

-- up to 128 bytes are the last ones, and there are none before them
pub few_last : (rest : List ℕ) → length rest ≤ 128 → last_128 rest ≡ rest
few_last rest few = let none : length rest - 128 ≡ 0 = omega (arith, few) in ap (λ n. drop n rest) none ∙ none_dropped rest

pub few_before : (rest : List ℕ) → length rest ≤ 128 → all_but_128 rest ≡ []
few_before rest few = let none : length rest - 128 ≡ 0 = omega (arith, few) in ap (λ n. take n rest) none ∙ none_taken rest

-- fewer are no tag
pub not_back : (rest : List ℕ) → length rest < 128 → is_back (last_128 rest) ≡ false
not_back rest few = ap is_back (few_last rest (omega (arith, few))) ∙ ap (λ b. b && starts_with eqb rest (codes "TAG")) (no_number (length rest) 128 few)

pub few_between : (rest : List ℕ) → length rest < 128 → without_back rest ≡ rest
few_between rest few = ap (λ b. cond b (all_but_128 rest) rest) (not_back rest few)

-- what comes before the last 128 bytes does not matter
longer : (xs ys : List ℕ) → 128 ≤ length ys → length (xs ++ ys) - 128 ≡ length xs + (length ys - 128)
longer xs ys long = omega (arith, long, length-append xs ys)

last_past : (xs ys : List ℕ) → 128 ≤ length ys → last_128 (xs ++ ys) ≡ last_128 ys
last_past xs ys long = ap (λ n. drop n (xs ++ ys)) (longer xs ys long) ∙ drop-append-add xs ys (length ys - 128)

before_past : (xs ys : List ℕ) → 128 ≤ length ys → all_but_128 (xs ++ ys) ≡ xs ++ all_but_128 ys
before_past xs ys long = ap (λ n. take n (xs ++ ys)) (longer xs ys long) ∙ take-append-add xs ys (length ys - 128)

either : (b : Bool) (xs ys zs : List ℕ) → cond b (xs ++ ys) (xs ++ zs) ≡ xs ++ cond b ys zs
either true xs ys zs = refl
either false xs ys zs = refl

between_past : (xs ys : List ℕ) → 128 ≤ length ys → without_back (xs ++ ys) ≡ xs ++ without_back ys
between_past xs ys long =
    ap (λ l. cond (is_back l) (all_but_128 (xs ++ ys)) (xs ++ ys)) (last_past xs ys long) ∙ ap (λ l. cond (is_back (last_128 ys)) l (xs ++ ys)) (before_past xs ys long)
    ∙ either (is_back (last_128 ys)) xs (all_but_128 ys) ys

pub given_past : (fails : Bool) (xs ys : List ℕ) → 128 ≤ length ys → given fails (xs ++ ys) ≡ xs ++ given fails ys
given_past true xs ys long = before_past xs ys long
given_past false xs ys long = between_past xs ys long
