-- The fields that the codes of a frame header ask for spell sizes and rates.
use Rattle.std.proofs.Common.{◌≡◌, ℕ, ◌+◌, ◌-◌, ◌*◌, ◌/◌, ◌%◌, ◌<◌, ◌≤◌, ◌^◌, Bool, true, false, nat_eq, nat_lt, [], ◌++◌, refl, sym, ◌∙◌, arith}
use Rattle.std.proofs.lemmas.List.{append-nil}
use Rattle.std.proofs.lemmas.Bool.Decides.{nat_tests}
use Rattle.flac_bits.specs.Bits.{unsigned}
use Rattle.flac_bits.specs.State.{Mark}
use Rattle.flac_bits.specs.inner.Forms.{Ties}
use Rattle.flac_bits.proofs.Ties.{tie, choose_each, choose_true, choose_false}
use Rattle.flac_header.specs.Header.{size_field, rate_field, IsSize, IsRate, size_of_code, rate_of_code}
use Rattle.flac_header.specs.Spelling.{size_spelling, rate_spelling}

by_test : {R : Type 0} (b : Bool) → (b ≡ true → R) → (b ≡ false → R) → R
by_test true f g = f refl
by_test false f g = g refl

same : (a b : ℕ) → nat_eq a b ≡ true → a ≡ b
same a b h = grind (arith, nat_tests)

below : (a b : ℕ) → nat_lt a b ≡ true → a < b
below a b h = grind (arith, nat_tests)

-- ---- block sizes

no_6 : (code : ℕ) → code < 6 → nat_eq code 6 ≡ false
no_6 code h = grind (arith, nat_tests)

no_7 : (code : ℕ) → code < 6 → nat_eq code 7 ≡ false
no_7 code h = grind (arith, nat_tests)

-- a size that the code names by itself
named_size : (code size : ℕ) → nat_eq code 6 ≡ false → nat_eq code 7 ≡ false → size ≡ size_of_code code → IsSize code size × ([] ≡ size_spelling code size)
unfolding size_spelling
named_size code size six seven is = (record { least = rw (six, seven) (omega (arith, is)); greatest = rw (six, seven) (omega (arith, is)) }, rw (six, seven) refl)

size_named : (code size : ℕ) → nat_eq code 6 ≡ false → nat_eq code 7 ≡ false → IsSize code size → size ≡ size_of_code code
size_named code size six seven v =
    let least : size_of_code code ≤ size = rw (six, seven) at v.least in
    let greatest : size ≤ size_of_code code = rw (six, seven) at v.greatest in
    omega (arith, least, greatest)

from_6 : (code : ℕ) (v : ℕ) → nat_eq code 6 ≡ true → v < 2 ^ 8 → IsSize code (v + 1) × (unsigned 8 v ++ [] ≡ size_spelling code (v + 1))
unfolding size_spelling
from_6 code v six lt =
    let back : v + 1 - 1 ≡ v = omega arith in
    (record { least = rw six (omega arith); greatest = rw six (omega (arith, lt)) }, rw (six, back) (append-nil (unsigned 8 v)))

from_7 : (code : ℕ) (v : ℕ) → nat_eq code 6 ≡ false → nat_eq code 7 ≡ true → v < 2 ^ 16 → nat_eq v 65535 ≡ false → IsSize code (v + 1) × (unsigned 16 v ++ [] ≡ size_spelling code (v + 1))
unfolding size_spelling
from_7 code v six seven lt kept =
    let back : v + 1 - 1 ≡ v = omega arith in
    let small : v + 1 ≤ 65535 = grind (arith, nat_tests, lt, kept) in
    (record { least = rw (six, seven) (omega arith); greatest = rw (six, seven) small }, rw (six, seven, back) (append-nil (unsigned 16 v)))

to_6 : (code size : ℕ) → nat_eq code 6 ≡ true → IsSize code size → (size - 1 < 2 ^ 8) × (unsigned 8 (size - 1) ++ [] ≡ size_spelling code size) × (size - 1 + 1 ≡ size)
unfolding size_spelling
to_6 code size six v =
    let least : 1 ≤ size = rw six at v.least in
    let greatest : size ≤ 256 = rw six at v.greatest in
    (omega (arith, least, greatest), rw six (append-nil (unsigned 8 (size - 1))), omega (arith, least))

not_65535 : (size : ℕ) → 1 ≤ size → size ≤ 65535 → nat_eq (size - 1) 65535 ≡ false
not_65535 size h k = grind (arith, nat_tests)

to_7 : (code size : ℕ) → nat_eq code 6 ≡ false → nat_eq code 7 ≡ true → IsSize code size
    → (size - 1 < 2 ^ 16) × (nat_eq (size - 1) 65535 ≡ false) × (unsigned 16 (size - 1) ++ [] ≡ size_spelling code size) × (size - 1 + 1 ≡ size)
unfolding size_spelling
to_7 code size six seven v =
    let least : 1 ≤ size = rw (six, seven) at v.least in
    let greatest : size ≤ 65535 = rw (six, seven) at v.greatest in
    (omega (arith, least, greatest), not_65535 size least greatest, rw (six, seven) (append-nil (unsigned 16 (size - 1))), omega (arith, least))

one_is_no_6 : (code : ℕ) → nat_eq code 1 ≡ true → nat_eq code 6 ≡ false
one_is_no_6 code h = grind (arith, nat_tests)

one_is_no_7 : (code : ℕ) → nat_eq code 1 ≡ true → nat_eq code 7 ≡ false
one_is_no_7 code h = grind (arith, nat_tests)

pub size_tie : (code : ℕ) (m : Mark) → Ties (size_field code) m (IsSize code) (size_spelling code)
unfolding size_field
size_tie code m = tie (size_field code) m (IsSize code) (size_spelling code)
    (choose_each (nat_eq code 1) _ _ m _ (λ one. named_size code 192 (one_is_no_6 code one) (one_is_no_7 code one) (rw one refl))
    (λ no_1. choose_each (nat_lt code 6) _ _ m _ (λ few. named_size code (144 * 2 ^ code) (no_6 code (below code 6 few)) (no_7 code (below code 6 few)) (rw (no_1, few) refl))
    (λ many. choose_each (nat_eq code 6) _ _ m _ (λ six v lt. from_6 code v six lt)
    (λ six. choose_each (nat_eq code 7) _ _ m _ (λ seven v lt kept. from_7 code v six seven lt kept.0)
    (λ seven. named_size code (2 ^ code) six seven (rw (no_1, many) refl))))))
    (λ size v. by_test (nat_eq code 1)
    (λ one. choose_true (nat_eq code 1) _ _ m _ one
    (let is = size_named code size (one_is_no_6 code one) (one_is_no_7 code one) v in let n : size ≡ 192 = is ∙ rw one refl in
    ((named_size code size (one_is_no_6 code one) (one_is_no_7 code one) is).1, sym n)))
    (λ no_1. choose_false (nat_eq code 1) _ _ m _ no_1 (by_test (nat_lt code 6)
    (λ few. choose_true (nat_lt code 6) _ _ m _ few
    (let is = size_named code size (no_6 code (below code 6 few)) (no_7 code (below code 6 few)) v in let n : size ≡ 144 * 2 ^ code = is ∙ rw (no_1, few) refl in
    ((named_size code size (no_6 code (below code 6 few)) (no_7 code (below code 6 few)) is).1, sym n)))
    (λ many. choose_false (nat_lt code 6) _ _ m _ many (by_test (nat_eq code 6)
    (λ six. choose_true (nat_eq code 6) _ _ m _ six (let k = to_6 code size six v in (size - 1, k.0, (k.1, k.2))))
    (λ six. choose_false (nat_eq code 6) _ _ m _ six (by_test (nat_eq code 7)
    (λ seven. choose_true (nat_eq code 7) _ _ m _ seven (let k = to_7 code size six seven v in (size - 1, k.0, ((k.1, tt), (k.2, k.3)))))
    (λ seven. choose_false (nat_eq code 7) _ _ m _ seven
    (let is = size_named code size six seven v in let n : size ≡ 2 ^ code = is ∙ rw (no_1, many) refl in
    ((named_size code size six seven is).1, sym n))))))))))

-- ---- rates

not_12 : (code : ℕ) → code < 12 → nat_eq code 12 ≡ false
not_12 code h = grind (arith, nat_tests)

not_13 : (code : ℕ) → code < 12 → nat_eq code 13 ≡ false
not_13 code h = grind (arith, nat_tests)

not_14 : (code : ℕ) → code < 12 → nat_eq code 14 ≡ false
not_14 code h = grind (arith, nat_tests)

is_14 : (code : ℕ) → code < 15 → nat_lt code 12 ≡ false → nat_eq code 12 ≡ false → nat_eq code 13 ≡ false → nat_eq code 14 ≡ true
is_14 code h few twelve thirteen = grind (arith, nat_tests)

twelve_many : (code : ℕ) → nat_eq code 12 ≡ true → nat_eq code 14 ≡ false
twelve_many code h = grind (arith, nat_tests)

thirteen_14 : (code : ℕ) → nat_eq code 13 ≡ true → nat_eq code 14 ≡ false
thirteen_14 code h = grind (arith, nat_tests)

named_rate : (code rate : ℕ) → nat_lt code 12 ≡ true → rate ≡ rate_of_code code → IsRate code rate × ([] ≡ rate_spelling code rate)
unfolding rate_spelling
named_rate code rate few is =
    let lt = below code 12 few in
    let twelve = not_12 code lt in
    let thirteen = not_13 code lt in
    let fourteen = not_14 code lt in
    (record { least = rw few (omega (arith, is)); greatest = rw few (omega (arith, is)); whole = rw (twelve, fourteen) (omega arith) }, rw (twelve, thirteen, fourteen) refl)

rate_named : (code rate : ℕ) → nat_lt code 12 ≡ true → IsRate code rate → rate ≡ rate_of_code code
rate_named code rate few v =
    let least : rate_of_code code ≤ rate = rw few at v.least in
    let greatest : rate ≤ rate_of_code code = rw few at v.greatest in
    omega (arith, least, greatest)

from_12 : (code v : ℕ) → nat_lt code 12 ≡ false → nat_eq code 12 ≡ true → v < 2 ^ 8 → IsRate code (v * 1000) × (unsigned 8 v ++ [] ≡ rate_spelling code (v * 1000))
unfolding rate_spelling
from_12 code v many twelve lt =
    let back : v * 1000 / 1000 ≡ v = omega arith in
    (record { least = rw many (omega arith); greatest = rw (many, twelve) (omega (arith, lt)); whole = rw twelve (omega arith) }, rw (twelve, back) (append-nil (unsigned 8 v)))

from_13 : (code v : ℕ) → nat_lt code 12 ≡ false → nat_eq code 12 ≡ false → nat_eq code 13 ≡ true → v < 2 ^ 16 → IsRate code v × (unsigned 16 v ≡ rate_spelling code v)
unfolding rate_spelling
from_13 code v many twelve thirteen lt =
    let fourteen = thirteen_14 code thirteen in
    (record { least = rw many (omega arith); greatest = rw (many, twelve, thirteen) (omega (arith, lt)); whole = rw (twelve, fourteen) (omega arith) }, rw (twelve, thirteen) refl)

from_14 : (code v : ℕ) → nat_lt code 12 ≡ false → nat_eq code 12 ≡ false → nat_eq code 13 ≡ false → nat_eq code 14 ≡ true → v < 2 ^ 16
    → IsRate code (v * 10) × (unsigned 16 v ++ [] ≡ rate_spelling code (v * 10))
unfolding rate_spelling
from_14 code v many twelve thirteen fourteen lt =
    let back : v * 10 / 10 ≡ v = omega arith in (
      record { least = rw many (omega arith); greatest = rw (many, twelve, thirteen) (omega (arith, lt)); whole = rw (twelve, fourteen) (omega arith) },
      rw (twelve, thirteen, fourteen, back) (append-nil (unsigned 16 v)),
    )

to_12 : (code rate : ℕ) → nat_lt code 12 ≡ false → nat_eq code 12 ≡ true → IsRate code rate → (rate / 1000 < 2 ^ 8) × (unsigned 8 (rate / 1000) ++ [] ≡ rate_spelling code rate) × (rate / 1000 * 1000 ≡ rate)
unfolding rate_spelling
to_12 code rate many twelve v =
    let greatest : rate ≤ 255000 = rw (many, twelve) at v.greatest in
    let whole : rate % 1000 ≡ 0 = rw twelve at v.whole in
    (omega (arith, greatest), rw twelve (append-nil (unsigned 8 (rate / 1000))), omega (arith, whole))

to_13 : (code rate : ℕ) → nat_lt code 12 ≡ false → nat_eq code 12 ≡ false → nat_eq code 13 ≡ true → IsRate code rate → (rate < 2 ^ 16) × (unsigned 16 rate ≡ rate_spelling code rate)
unfolding rate_spelling
to_13 code rate many twelve thirteen v =
    let greatest : rate ≤ 65535 = rw (many, twelve, thirteen) at v.greatest in
    (omega (arith, greatest), rw (twelve, thirteen) refl)

to_14 : (code rate : ℕ) → nat_lt code 12 ≡ false → nat_eq code 12 ≡ false → nat_eq code 13 ≡ false → nat_eq code 14 ≡ true → IsRate code rate
    → (rate / 10 < 2 ^ 16) × (unsigned 16 (rate / 10) ++ [] ≡ rate_spelling code rate) × (rate / 10 * 10 ≡ rate)
unfolding rate_spelling
to_14 code rate many twelve thirteen fourteen v =
    let greatest : rate ≤ 655350 = rw (many, twelve, thirteen) at v.greatest in
    let whole : rate % 10 ≡ 0 = rw (twelve, fourteen) at v.whole in
    (omega (arith, greatest), rw (twelve, thirteen, fourteen) (append-nil (unsigned 16 (rate / 10))), omega (arith, whole))

pub rate_tie : (code : ℕ) (m : Mark) → code < 15 → Ties (rate_field code) m (IsRate code) (rate_spelling code)
unfolding rate_field
rate_tie code m lt = tie (rate_field code) m (IsRate code) (rate_spelling code)
    (choose_each (nat_lt code 12) _ _ m _ (λ few. named_rate code (rate_of_code code) few refl)
    (λ many. choose_each (nat_eq code 12) _ _ m _ (λ twelve v small. from_12 code v many twelve small)
    (λ twelve. choose_each (nat_eq code 13) _ _ m _ (λ thirteen v small. from_13 code v many twelve thirteen small)
    (λ thirteen v small. from_14 code v many twelve thirteen (is_14 code lt many twelve thirteen) small))))
    (λ rate v. by_test (nat_lt code 12)
    (λ few. choose_true (nat_lt code 12) _ _ m _ few (let is = rate_named code rate few v in ((named_rate code rate few is).1, sym is)))
    (λ many. choose_false (nat_lt code 12) _ _ m _ many (by_test (nat_eq code 12)
    (λ twelve. choose_true (nat_eq code 12) _ _ m _ twelve (let k = to_12 code rate many twelve v in (rate / 1000, k.0, (k.1, k.2))))
    (λ twelve. choose_false (nat_eq code 12) _ _ m _ twelve (by_test (nat_eq code 13)
    (λ thirteen. choose_true (nat_eq code 13) _ _ m _ thirteen (let k = to_13 code rate many twelve thirteen v in (rate, k.0, (k.1, refl))))
    (λ thirteen. choose_false (nat_eq code 13) _ _ m _ thirteen
    (let k = to_14 code rate many twelve thirteen (is_14 code lt many twelve thirteen) v in (rate / 10, k.0, (k.1, k.2)))))))))
