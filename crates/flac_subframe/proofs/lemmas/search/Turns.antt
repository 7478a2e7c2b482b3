-- One turn of a loop that prices the partitions of a residual, the first of which begins with its values.
use Rattle.std.proofs.Common.{◌≡◌, ◌∙◌, ℕ, suc, ◌+◌, ◌-◌, ◌*◌, ◌/◌, ◌%◌, ◌^◌, ◌≤◌, ◌<◌, arith, ℤ, List, ap, length, drop}
use Rattle.std.proofs.lemmas.List.{drop-drop, length-drop}
use Rattle.std.proofs.lemmas.Nat.{mul-le}
use Rattle.std.proofs.Math.Nat.{div-add-mod}
use Rattle.flac_subframe.specs.declared.format.coding.Coding.{Coding}
use Rattle.flac_subframe.specs.search.inner.Halves.{start}
use Rattle.flac_subframe.proofs.lemmas.search.Orders.{place_within}
use Rattle.flac_subframe.proofs.lemmas.search.Places.{power_le}
use Rattle.flac_subframe.proofs.lemmas.search.Pricing.{PricedTo}
use Rattle.flac_subframe.proofs.lemmas.search.Splits.{start_next, start_rises}

pub index_below : (j n p : ℕ) → n ≡ 2 ^ p → j < n → j < 2 ^ p
index_below j n p is h = omega (arith, is, h)

-- the place of an entry is in the table
pub entry_within : (p j n high size : ℕ) → p ≤ high → n ≡ 2 ^ p → j < n → 2 * 2 ^ high ≤ size → n + j < size
entry_within p j n high size le is h room = omega (arith, place_within p j high le (index_below j n p is h), is, room)

pub one_left : (n j : ℕ) → j < n → n - j ≡ suc (n - (j + 1))
one_left n j h = omega (arith, h)

pub none_left : (n j : ℕ) → n ≤ j → n - j ≡ 0
none_left n j h = omega (arith, h)

pub all_taken : (n j m : ℕ) → j ≤ n → n ≤ j → n ≡ m → j ≡ m
all_taken n j m le over is = omega (arith, le, over, is)

module _ (order block p : ℕ) where
  first_start : 0 ≡ start order block p 0
  first_start = omega arith

  pub all_rest : {A : Type 0} (rs : List A) → rs ≡ drop (start order block p 0) rs
  all_rest rs = ap (λ (k : ℕ). drop k rs) first_start

  pub rest_within : {A : Type 0} (j : ℕ) (xs rest : List A) → rest ≡ drop (start order block p j) xs → length rest ≤ length xs
  rest_within j xs rest e = rw e (omega (arith, length-drop (start order block p j) xs))

  pub first_long : block / 2 ^ p - order ≡ start order block p (0 + 1) - start order block p 0
  first_long = omega arith

  pub next_long : (j : ℕ) → order < block / 2 ^ p → block / 2 ^ p ≡ start order block p (j + 1 + 1) - start order block p (j + 1)
  next_long j room = omega (arith, start_next order block p j room, start_rises order block p (j + 1))

  pub next_rest : {A : Type 0} (j long : ℕ) (rs rest back : List A) → long ≡ start order block p (j + 1) - start order block p j → rest ≡ drop (start order block p j) rs → back ≡ drop long rest → back ≡ drop (start order block p (j + 1)) rs
  next_rest j long rs rest back is was e =
      let next : start order block p j + long ≡ start order block p (j + 1) = omega (arith, start_rises order block p j, is) in
      e ∙ rw was (drop-drop long (start order block p j) rs) ∙ ap (λ (k : ℕ). drop k rs) next

-- the next partition is within what is left of the values, or of as many numbers
module _ (order : ℕ) (rs : List ℤ) (p j n long : ℕ) (is : n ≡ 2 ^ p) (less : j < n) (cut : long ≡ start order (length rs + order) p (j + 1) - start order (length rs + order) p j) where
  ends_within : start order (length rs + order) p (j + 1) ≤ length rs
  ends_within =
      let block : ℕ = length rs + order in
      let whole : 2 ^ p * (block / 2 ^ p) + block % 2 ^ p ≡ block = div-add-mod block (2 ^ p) in
      let le : (j + 1) * (block / 2 ^ p) ≤ 2 ^ p * (block / 2 ^ p) = mul-le (j + 1) (block / 2 ^ p) (2 ^ p) (block / 2 ^ p) (omega (arith, is, less)) (omega arith) in
      omega (arith, whole, le)

  pub long_within : {A : Type 0} (xs rest : List A) → length xs ≡ length rs → rest ≡ drop (start order (length rs + order) p j) xs → long ≤ length rest
  long_within xs rest same e = rw e (omega (arith, length-drop (start order (length rs + order) p j) xs, ends_within, cut, same))

  pub long_few : length rs + order ≤ 65535 → long ≤ 65535
  long_few few = omega (arith, ends_within, cut, few)

-- all that was priced takes few bits
pub priced_small : (w first size count : ℕ) (rs : List ℤ) (done : List Coding) (bits long left : ℕ) (rest : List ℤ) (order p high : ℕ) →
    PricedTo w first size count rs done bits long left rest → length rs + order ≤ 65535 → p ≤ high → high ≤ 15 → count ≡ 2 ^ p → bits ≤ 2 ^ 33 * 65535 + 10 * 2 ^ 15
priced_small w first size count rs done bits long left rest order p high so few le most is =
    let most' : 2 ^ p ≤ 2 ^ 15 = power_le p 15 (omega (arith, le, most)) in
    omega (arith, so.small, so.counted, few, is, most')
