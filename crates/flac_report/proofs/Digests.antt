-- A digest that is written in hexadecimal digits is read again.
use Rattle.std.proofs.Common.{◌≡◌, ◌<◌, ◌+◌, ◌/◌, ◌%◌, ◌*◌, ℕ, false, cond, nat_lt, List, [], ◌∷◌, ◌++◌, length, take, Some, None, Ok, refl, sym, ap, ◌∙◌, length-append, arith}
use Rattle.std.proofs.Math.Seq.{take-append_seam}
use Rattle.std.proofs.lemmas.Bool.Decides.{nat_tests}
use Rattle.std.proofs.lemmas.List.Elements.{recursion_from_All}
use Rattle.std.specs.List.{AllByRecursion}
use Rattle.hex.specs.Hex.{hex_digit_value, pair_value, decode_pairs, decode_sized}
use Rattle.flac_json.specs.Texts.{hex_digit, all_digits}
use Rattle.flac_report.specs.Entries.{IsDigest}
use Rattle.flac_report.specs.inner.Reading.{ok_of, digest_in}

value_is : (n : ℕ) → n < 16 → hex_digit_value (hex_digit n) ≡ Some n
value_is n few = grind (arith, nat_tests)

pair_is : (b i : ℕ) → b < 256 → pair_value (hex_digit (b / 16)) (hex_digit (b % 16)) i ≡ Ok b
pair_is b i few =
    let high : b / 16 < 16 = omega (arith, few) in
    let low : b % 16 < 16 = omega arith in
    let whole : b / 16 * 16 + b % 16 ≡ b = omega arith in
    rw (value_is (b / 16) high, value_is (b % 16) low) (ap Ok whole)

pairs_are : (bytes : List ℕ) (i : ℕ) → AllByRecursion (λ b. b < 256) bytes → decode_pairs i (all_digits bytes) ≡ Ok bytes
unfolding decode_pairs
pairs_are [] i small = refl
pairs_are (b ∷ bs) i small = rw (pair_is b i small.0, pairs_are bs (i + 2) small.1) refl

digits_long : (bytes : List ℕ) → length (all_digits bytes) ≡ 2 * length bytes
digits_long [] = refl
digits_long (b ∷ bs) = omega (arith, digits_long bs)

sized : (digits bytes : List ℕ) → length digits ≡ 32 → decode_pairs 0 digits ≡ Ok bytes → decode_sized digits 16 ≡ Ok bytes
sized digits bytes long is = rw long is

pub digest_is : (digest rest : List ℕ) → IsDigest digest → digest_in (all_digits digest ++ rest) ≡ Some digest
unfolding digest_in
digest_is digest rest fits =
    let long : length (all_digits digest) ≡ 32 = omega (arith, digits_long digest, fits.size) in
    let enough : nat_lt (length (all_digits digest ++ rest)) 32 ≡ false = let l = length-append (all_digits digest) rest in grind (arith, nat_tests) in
    let front : take 32 (all_digits digest ++ rest) ≡ all_digits digest = ap (λ n. take n (all_digits digest ++ rest)) (sym long) ∙ take-append_seam (all_digits digest) rest in
    ap (λ b. cond b None (ok_of (decode_sized (take 32 (all_digits digest ++ rest)) 16))) enough
    ∙ ap (λ l. ok_of (decode_sized l 16)) front
    ∙ ap ok_of (sized (all_digits digest) digest long (pairs_are digest 0 (recursion_from_All (λ b. b < 256) digest fits.bytes)))
