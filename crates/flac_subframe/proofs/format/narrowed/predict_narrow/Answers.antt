use Rattle.std.proofs.Common.{arith, ◌≡◌, sym, ℕ, ℤ, ◌*◌, ◌^◌, ◌≤◌, ◌<◌, w32}
use Rattle.std.specs.Int.RustNames.{unsigned_abs}
use Rattle.std.proofs.lemmas.Int.{ints}
use Rattle.flac_bits.specs.Signed.{FitsBits}
use Rattle.flac_subframe.proofs.lemmas.format.FixedSums.{no_terms, one_term, two_terms, three_terms, four_terms}
use Rattle.flac_subframe.proofs.lemmas.format.Predicting.{kept, double_fits, second_fits, second_is, second_small, gap_fits, triple_fits, third_fits, third_is, third_small, both_fits, nearest_fits, nearest_four_fits, two_times_fits, farthest_fits, apart_fits, apart_is, apart_small}
use Rattle.flac_subframe.proofs.format.narrowed.predict_narrow.Goals as goal

abs_27 : (z : ℤ) → FitsBits 27 z → unsigned_abs z ≤ 2 ^ 26
abs_27 z f = omega (arith, ints, f.low, f.high)

room : 16 * 2 ^ 26 < 2 ^ 31
room = omega arith

small : (n : ℕ) → n ≤ 15 * 2 ^ 26 → n ≤ 2 ^ 30
small n h = omega arith

none_small : 0 ≤ 2 ^ 30
none_small = omega arith

alone : (n : ℕ) → n ≤ 2 ^ 26 → n ≤ 15 * 2 ^ 26
alone n h = omega arith

pub overflow_mul-result : goal.overflow_mul-result
overflow_mul-result c = let a = c.args in double_fits w32 (2 ^ 26) room a.first a.second (abs_27 _ c.requires.first) (abs_27 _ c.requires.second)

pub overflow_sub-result : goal.overflow_sub-result
overflow_sub-result c = let a = c.args in second_fits w32 (2 ^ 26) room a.first a.second (abs_27 _ c.requires.first) (abs_27 _ c.requires.second)

pub overflow_sub-result-in-3 : goal.overflow_sub-result-in-3
overflow_sub-result-in-3 c = let a = c.args in gap_fits w32 (2 ^ 26) room a.first a.second (abs_27 _ c.requires.first) (abs_27 _ c.requires.second)

pub overflow_mul-result-in-3 : goal.overflow_mul-result-in-3
overflow_mul-result-in-3 c = let a = c.args in triple_fits w32 (2 ^ 26) room a.first a.second (abs_27 _ c.requires.first) (abs_27 _ c.requires.second)

pub overflow_add-result : goal.overflow_add-result
overflow_add-result c = let a = c.args in third_fits w32 (2 ^ 26) room a.first a.second (abs_27 _ c.requires.first) (abs_27 _ c.requires.second) a.third (abs_27 _ c.requires.third)

pub overflow_add-result-in_default : goal.overflow_add-result-in_default
overflow_add-result-in_default c = let a = c.args in both_fits w32 (2 ^ 26) room a.first a.second (abs_27 _ c.requires.first) (abs_27 _ c.requires.second) a.third (abs_27 _ c.requires.third)

pub overflow_sub-result-in_default : goal.overflow_sub-result-in_default
overflow_sub-result-in_default c = let a = c.args in nearest_fits w32 (2 ^ 26) room a.first a.second (abs_27 _ c.requires.first) (abs_27 _ c.requires.second) a.third (abs_27 _ c.requires.third)

pub overflow_mul-result-in_default : goal.overflow_mul-result-in_default
overflow_mul-result-in_default c = let a = c.args in nearest_four_fits w32 (2 ^ 26) room a.first a.second (abs_27 _ c.requires.first) (abs_27 _ c.requires.second) a.third (abs_27 _ c.requires.third)

pub overflow_mul-result-in_default-2 : goal.overflow_mul-result-in_default-2
overflow_mul-result-in_default-2 c = let a = c.args in two_times_fits w32 (2 ^ 26) room a.first a.second (abs_27 _ c.requires.first) (abs_27 _ c.requires.second) a.third (abs_27 _ c.requires.third)

pub overflow_add-result-in_default-2 : goal.overflow_add-result-in_default-2
overflow_add-result-in_default-2 c = let a = c.args in farthest_fits w32 (2 ^ 26) room a.first a.second (abs_27 _ c.requires.first) (abs_27 _ c.requires.second) a.third (abs_27 _ c.requires.third) a.fourth (abs_27 _ c.requires.fourth)

pub overflow_sub-result-in_default-2 : goal.overflow_sub-result-in_default-2
overflow_sub-result-in_default-2 c = let a = c.args in apart_fits w32 (2 ^ 26) room a.first a.second (abs_27 _ c.requires.first) (abs_27 _ c.requires.second) a.third (abs_27 _ c.requires.third) a.fourth (abs_27 _ c.requires.fourth)

pub returns-in-0 : goal.returns-in-0
returns-in-0 c = record { value = rw c.in-0.is (sym (no_terms c.args.first c.args.second c.args.third c.args.fourth)); small = none_small }

pub returns-in-1 : goal.returns-in-1
returns-in-1 c =
    let a = c.args in
    let near = alone _ (abs_27 a.first c.requires.first) in
    let is = kept w32 (2 ^ 26) room a.first near in
    record { value = rw (c.in-1.is, one_term a.first a.second a.third a.fourth) is; small = rw is (small _ near) }

pub returns-in-2 : goal.returns-in-2
returns-in-2 c =
    let a = c.args in let f = abs_27 a.first c.requires.first in let s = abs_27 a.second c.requires.second in
    record {
      value = rw (c.in-2.is, two_terms a.first a.second a.third a.fourth) (second_is w32 (2 ^ 26) room a.first a.second f s);
      small = small _ (second_small w32 (2 ^ 26) room a.first a.second f s);
    }

pub returns-in-3 : goal.returns-in-3
returns-in-3 c =
    let a = c.args in let f = abs_27 a.first c.requires.first in let s = abs_27 a.second c.requires.second in let t = abs_27 a.third c.requires.third in
    record {
      value = rw (c.in-3.is, three_terms a.first a.second a.third a.fourth) (third_is w32 (2 ^ 26) room a.first a.second f s a.third t);
      small = small _ (third_small w32 (2 ^ 26) room a.first a.second f s a.third t);
    }

pub returns-in_default : goal.returns-in_default
returns-in_default c =
    let a = c.args in let f = abs_27 a.first c.requires.first in let s = abs_27 a.second c.requires.second in
    let t = abs_27 a.third c.requires.third in let r = abs_27 a.fourth c.requires.fourth in
    let is : c.args.order ≡ 4 = omega arith in
    record {
      value = rw (is, four_terms a.first a.second a.third a.fourth) (apart_is w32 (2 ^ 26) room a.first a.second f s a.third t a.fourth r);
      small = small _ (apart_small w32 (2 ^ 26) room a.first a.second f s a.third t a.fourth r);
    }
