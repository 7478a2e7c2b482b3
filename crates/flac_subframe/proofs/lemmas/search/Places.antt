-- Arrays that have places for some partition orders have them for fewer.
use Rattle.std.proofs.Common.{ℕ, ◌≡◌, ◌⊎◌, inl, inr, ◌∙◌, sym, ap, ◌^◌, ◌≤◌, ◌<◌, arith, List, length, take, min}
use Rattle.std.proofs.Math.Nat.{pow-le-pow_right, min-eq_left, min-eq_right}
use Rattle.std.proofs.lemmas.Bool.{cases_lt}
use Rattle.std.proofs.lemmas.List.{take_all}
use Rattle.flac_subframe.specs.declared.search.tables.Tables.{Tables}
use Rattle.flac_subframe.specs.search.inner.Halves.{HasPlaces}

pub power_le : (p q : ℕ) → p ≤ q → 2 ^ p ≤ 2 ^ q
power_le p q le = pow-le-pow_right {n = 2} (omega arith) {i = p} {j = q} le

pub fewer_places : (p q : ℕ) (t : Tables) → p ≤ q → HasPlaces q t → HasPlaces p t
fewer_places p q t le so =
    let h = power_le p q le in
    record { leaves = omega (arith, h, so.leaves); sums = omega (arith, h, so.sums); four = omega (arith, h, so.four); five = omega (arith, h, so.five); widths = omega (arith, h, so.widths); codings = omega (arith, h, so.codings) }

-- arrays that are as long as others
pub places_kept : (p : ℕ) (t u : Tables) → length u.leaves.now ≡ length t.leaves.now → length u.sums.now ≡ length t.sums.now →
    length u.four.now ≡ length t.four.now → length u.five.now ≡ length t.five.now →
    length u.widths.now ≡ length t.widths.now → length u.codings.now ≡ length t.codings.now → HasPlaces p t → HasPlaces p u
places_kept p t u leaves sums four five widths codings so = record {
  leaves = rw leaves so.leaves;
  sums = rw sums so.sums;
  four = rw four so.four;
  five = rw five so.five;
  widths = rw widths so.widths;
  codings = rw codings so.codings;
}

-- the codings of a partition order, of as many as an array has places
used_in : (order : ℕ) (codings : List ℕ) → length codings ≡ 256 → (8 < order) ⊎ (order ≤ 8) → take (2 ^ min order 8) codings ≡ take (2 ^ order) codings
used_in order codings long (inr few) = ap (λ n. take (2 ^ n) codings) (min-eq_left few)
used_in order codings long (inl many) =
    let eight : min order 8 ≡ 8 = min-eq_right (omega (arith, many)) in
    let more = power_le 8 order (omega (arith, many)) in
    ap (λ n. take (2 ^ n) codings) eight ∙ take_all (2 ^ 8) codings (omega (arith, long)) ∙ sym (take_all (2 ^ order) codings (omega (arith, long, more)))

pub used_is : (order : ℕ) (codings : List ℕ) → length codings ≡ 256 → take (2 ^ min order 8) codings ≡ take (2 ^ order) codings
used_is order codings long = used_in order codings long (cases_lt 8 order)
