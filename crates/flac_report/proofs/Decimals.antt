-- A number that is written in decimal digits is read again.
use Rattle.std.proofs.Common.{◌≡◌, ◌<◌, ◌≤◌, ◌+◌, ◌-◌, ◌*◌, ◌^◌, ℕ, suc, Bool, true, false, ◌&&◌, nat_eq, nat_le, List, [], ◌∷◌, ◌++◌, length, take, decimal, Some, refl, ap, ◌∙◌, arith}
use Rattle.std.proofs.Math.Seq.{take-append_seam}
use Rattle.std.proofs.lemmas.Bool.Decides.{nat_tests}
use Rattle.std.proofs.lemmas.Fmt.{digits_decimal, digits_value-decimal, decimal_nonempty}
use Rattle.std.proofs.lemmas.Str.Parse.{IsNumeralModel, FoldsDigits, numerals_by_fold, tells_digits, digit_from_value}
use Rattle.std.specs.Str.Parse.{AllDigits}
use Rattle.std.specs.Int.{IsInRange}
use Rattle.flac_report.specs.inner.Reading.{is_digit, digits_in, with_digit, number_after, number_of, number_in}

both_hold : (a b : Bool) → a ≡ true → b ≡ true → (a && b) ≡ true
both_hold a b e f = rw e f

some_not_none : (k : ℕ) → nat_eq (suc k) 0 ≡ false
some_not_none k = grind (arith, nat_tests)

sum_after : ℕ → List ℕ → ℕ
sum_after n [] = n
sum_after n (c ∷ cs) = sum_after (n * 10 + (c - 48)) cs

folds : FoldsDigits sum_after
unfolding sum_after
folds = record { empty = λ n. refl; more = λ n c cs k. refl }

own : IsNumeralModel (AllDigits 10) (sum_after 0)
own = numerals_by_fold (AllDigits 10) tells_digits sum_after folds

grows : (ds : List ℕ) (n : ℕ) → n ≤ sum_after n ds
unfolding sum_after
grows [] n = omega arith
grows (c ∷ cs) n = omega (arith, grows cs (n * 10 + (c - 48)))

digit_is : (c : ℕ) → IsInRange 48 57 c → is_digit c ≡ true
digit_is c k = let low : 48 ≤ c = k.0 in let high : c ≤ 57 = k.1 in grind (arith, nat_tests)

with_digit_is : (n c : ℕ) → IsInRange 48 57 c → n * 10 + (c - 48) < 2 ^ 64 → with_digit n c ≡ Some (n * 10 + (c - 48))
unfolding with_digit
with_digit_is n c k lt =
    let fits : nat_le (n * 10 + (c - 48)) 18446744073709551615 ≡ true = grind (arith, nat_tests) in
    rw (both_hold (is_digit c) (nat_le (n * 10 + (c - 48)) 18446744073709551615) (digit_is c k) fits) refl

all_taken : (ds : List ℕ) (n : ℕ) → AllDigits 10 ds → sum_after n ds < 2 ^ 64 → number_after n ds ≡ Some (sum_after n ds)
unfolding sum_after number_after
all_taken [] n d lt = refl
all_taken (c ∷ cs) n d lt =
    let small : n * 10 + (c - 48) < 2 ^ 64 = omega (arith, grows cs (n * 10 + (c - 48))) in
    rw (with_digit_is n c (digit_from_value c d.0) small, number_after) (all_taken cs (n * 10 + (c - 48)) d.1 lt)

reads_from : (w : List ℕ) (n : ℕ) → 0 < length w → AllDigits 10 w → sum_after 0 w ≡ n → n < 2 ^ 64 → number_of w ≡ Some n
unfolding number_of
reads_from [] n some d is lt = absurd (omega arith)
reads_from (c ∷ cs) n some d is lt = rw (some_not_none (length cs)) (all_taken (c ∷ cs) 0 d (omega (arith, is)) ∙ ap Some is)

-- what comes after a number: nothing, or no digit first
abbrev pub Stops : List ℕ → Type 0
Stops [] = Unit {0}
Stops (b ∷ text) = is_digit b ≡ false

digits_place : (ds tail : List ℕ) → AllDigits 10 ds → Stops tail → digits_in (ds ++ tail) ≡ length ds
digits_place [] [] d t = refl
digits_place [] (b ∷ rest) d t = rw t refl
digits_place (c ∷ cs) tail d t =
    let more : digits_in (cs ++ tail) ≡ length cs = digits_place cs tail d.1 t in
    rw (digit_is c (digit_from_value c d.0)) (omega (arith, more))

pub digits_end : (n : ℕ) (tail : List ℕ) → n < 2 ^ 64 → Stops tail → digits_in (decimal n ++ tail) ≡ length (decimal n)
digits_end n tail lt t = digits_place (decimal n) tail (digits_decimal own n lt) t

pub number_is : (n : ℕ) (tail : List ℕ) → n < 2 ^ 64 → Stops tail → number_in (decimal n ++ tail) ≡ Some n
number_is n tail lt t =
    ap (λ k. number_of (take k (decimal n ++ tail))) (digits_end n tail lt t) ∙ ap number_of (take-append_seam (decimal n) tail)
    ∙ reads_from (decimal n) n (decimal_nonempty n lt) (digits_decimal own n lt) (digits_value-decimal own n lt) lt
