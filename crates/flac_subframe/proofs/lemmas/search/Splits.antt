-- Partitions are made of two of the next finer order.
use Rattle.std.proofs.Common.{◌≡◌, ◌∙◌, refl, sym, ap, inl, inr, ℕ, zero, suc, ◌+◌, ◌-◌, ◌*◌, ◌/◌, ◌%◌, ◌^◌, ◌≤◌, ◌<◌, ◌⊎◌, slice_index, min, arith, ℤ, pos, negsuc, add-one, List, ◌++◌, length, take, drop, All}
use Rattle.std.specs.List.{sum_by}
use Rattle.std.proofs.Math.Nat.{suc-mul, mul_assoc, pow-suc, mul_comm}
use Rattle.std.proofs.lemmas.List.{take-append-drop, drop-drop, take-take, drop-take, length-take, length-drop}
use Rattle.std.proofs.lemmas.Nat.{shr-shr, mod-pow-add, pow_pos, shr_le, mul-le}
use Rattle.std.proofs.lemmas.Int.{ints}
use Rattle.std.proofs.lemmas.List.Elements.{All-take, All-drop, All-weaker}
use Rattle.std.proofs.Math.Pow.{mod-mod-pow}
use Rattle.std.proofs.Math.Nat.{zero-mod, div-add-mod}
use Rattle.std.proofs.lemmas.Bool.{cases_eq, cases_lt}
use Rattle.std.proofs.lemmas.List.Sums.{sum_by-append, sum_by-le}
use Rattle.flac_subframe.specs.format.inner.Cost.{value_cost}
use Rattle.flac_subframe.specs.search.inner.Entry.{entry_number}
use Rattle.flac_subframe.specs.search.inner.Halves.{start, segment, part, Halves, entry, LeastBelow}
use Rattle.std.proofs.Math.Nat.{pow-le-pow_right}
use Rattle.flac_bits.specs.Rice.{IsResidual}

pub start_next : (order block p j : ℕ) → order < block / 2 ^ p → start order block p (j + 1) + block / 2 ^ p ≡ start order block p (j + 1 + 1)
start_next order block p j room =
    let q = block / 2 ^ p in
    let a : (j + 1) * q ≡ j * q + q = rw add-one (suc-mul j q) in
    let b : (j + 1 + 1) * q ≡ (j + 1) * q + q = rw (add-one (j + 1)) (suc-mul (j + 1) q) in
    omega arith

pub segments : (a b c : ℕ) (rs : List ℤ) → a ≤ b → b ≤ c → segment a c rs ≡ segment a b rs ++ segment b c rs
segments a b c rs h g =
    let n : ℕ = b - a in let m : ℕ = c - b in
    let e : n + m ≡ c - a = omega arith in
    let all : List ℤ = take (c - a) (drop a rs) in
    let front : take n all ≡ take n (drop a rs) = take-take n (c - a) (drop a rs) (omega arith) in
    let back : drop n all ≡ take m (drop b rs) =
    rw (← e) (drop-take n m (drop a rs) ∙ ap (take m) (drop-drop n a rs ∙ ap (λ (k : ℕ). drop k rs) (omega arith))) in
    sym (take-append-drop n all) ∙ rw (front, back) refl

-- a block that can be halved once more has parts of twice the size
pub twice : (block p : ℕ) → block % 2 ^ (p + 1) ≡ 0 → block / 2 ^ p ≡ 2 * (block / 2 ^ (p + 1))
twice block p even =
    let a : ℕ = block / 2 ^ p in
    let half : a / 2 ≡ block / 2 ^ (p + 1) = shr-shr block p 1 in
    let split : block % 2 ^ (1 + p) ≡ a % 2 * 2 ^ p + block % 2 ^ p = mod-pow-add block 1 p in
    let swap : 1 + p ≡ p + 1 = omega arith in
    let zero' : a % 2 * 2 ^ p + block % 2 ^ p ≡ 0 = sym split ∙ rw swap even in
    elim (cases_eq (a % 2) 0) [
      | inl e ↦ omega arith
      | inr ne ↦ let one : a % 2 ≡ 1 = omega arith in
          let p' : 1 * 2 ^ p + block % 2 ^ p ≡ 0 = rw one at zero' in
          absurd (omega (arith, pow_pos p))
    ]

pub part_splits : (order : ℕ) (rs : List ℤ) (p j : ℕ) → Halves order rs (p + 1) → part order rs p j ≡ part order rs (p + 1) (2 * j) ++ part order rs (p + 1) (2 * j + 1)
unfolding part
part_splits order rs p j h =
    let n = length rs + order in
    let q = n / 2 ^ (p + 1) in
    let t : n / 2 ^ p ≡ 2 * q = twice n p h.even in
    let a : j * (2 * q) ≡ (2 * j) * q = sym (mul_assoc j 2 q) ∙ ap (λ (x : ℕ). x * q) (mul_comm j 2) in
    let b : (2 * j + 1) * q ≡ (2 * j) * q + q = rw add-one (suc-mul (2 * j) q) in
    let c : (2 * j + 1 + 1) * q ≡ (2 * j + 1) * q + q = rw (add-one (2 * j + 1)) (suc-mul (2 * j + 1) q) in
    let d : (j + 1) * (2 * q) ≡ j * (2 * q) + 2 * q = rw add-one (suc-mul j (2 * q)) in
    let from : j * (n / 2 ^ p) - order ≡ (2 * j) * q - order = rw t (omega arith) in
    let to : (j + 1) * (n / 2 ^ p) - order ≡ (2 * j + 1 + 1) * q - order = rw t (omega arith) in
    rw (from, to) (segments ((2 * j) * q - order) ((2 * j + 1) * q - order) ((2 * j + 1 + 1) * q - order) rs (omega arith) (omega arith))

-- the cost of a part is the sum of the costs of its two halves
pub cost_splits : (order k : ℕ) (rs : List ℤ) (p j : ℕ) → Halves order rs (p + 1) →
    sum_by (value_cost k) (part order rs p j) ≡ sum_by (value_cost k) (part order rs (p + 1) (2 * j)) + sum_by (value_cost k) (part order rs (p + 1) (2 * j + 1))
cost_splits order k rs p j h = rw (part_splits order rs p j h) (sum_by-append (value_cost k) (part order rs (p + 1) (2 * j)) (part order rs (p + 1) (2 * j + 1)))

pub coarser : (order : ℕ) (rs : List ℤ) (p : ℕ) → Halves order rs (p + 1) → Halves order rs p
coarser order rs p h =
    let n = length rs + order in
    record { even = let swap : p + 1 ≡ 1 + p = omega arith in sym (mod-mod-pow n 1 p) ∙ rw (← swap, h.even) (zero-mod (2 ^ p)); room = let t = twice n p h.even in omega (arith, h.room) }

pub power_more : (l : ℕ) → 0 < l → 2 ^ l ≡ 2 * 2 ^ (l - 1)
power_more zero h = absurd (omega arith)
power_more (suc l) h = let e : suc l - 1 ≡ l = omega arith in rw (e, pow-suc) (omega arith)

down : (order : ℕ) (rs : List ℤ) (n p : ℕ) → Halves order rs (n + p) → Halves order rs p
down order rs zero p h = let e : 0 + p ≡ p = omega arith in rw e at h
down order rs (suc n) p h = let e : suc n + p ≡ n + p + 1 = omega arith in down order rs n p (coarser order rs (n + p) (rw e at h))

pub halves_at : (order : ℕ) (rs : List ℤ) (most p : ℕ) → p ≤ most → Halves order rs most → Halves order rs p
halves_at order rs most p le h = let e : most ≡ most - p + p = omega arith in down order rs (most - p) p (rw e at h)

pub value_small : (k : ℕ) (x : ℤ) → k < 31 → IsResidual x → value_cost k x ≤ 2 ^ 33
value_small k (pos a) small r = omega (arith, ints, r.high, shr_le (2 * a) k)
value_small k (negsuc a) small r = omega (arith, ints, r.low, shr_le (2 * a + 1) k)

pub part_small : (order k : ℕ) (rs : List ℤ) (p j : ℕ) → k < 31 → length rs ≤ 65535 → All IsResidual rs → sum_by (value_cost k) (part order rs p j) < 2 ^ 50
unfolding part
part_small order k rs p j small few all =
    let from = start order (length rs + order) p j in
    let to = start order (length rs + order) p (j + 1) in
    let xs = part order rs p j in
    let inside : All IsResidual xs = All-take IsResidual (to - from) (drop from rs) (All-drop IsResidual from rs all) in
    let each : All (λ x. value_cost k x ≤ 2 ^ 33) xs = All-weaker IsResidual (λ x. value_cost k x ≤ 2 ^ 33) (λ x r. value_small k x small r) xs inside in
    let long : length xs ≤ 65535 = omega (arith, length-take (to - from) (drop from rs), length-drop from rs) in
    omega (arith, sum_by-le (value_cost k) (2 ^ 33) xs each, mul-le (length xs) (2 ^ 33) 65535 (2 ^ 33) long (omega arith))

pub cost_splits_at : (order k : ℕ) (rs : List ℤ) (l j : ℕ) → 0 < l → Halves order rs l →
    sum_by (value_cost k) (part order rs l (2 * j)) + sum_by (value_cost k) (part order rs l (2 * j + 1)) ≡ sum_by (value_cost k) (part order rs (l - 1) j)
cost_splits_at order k rs zero j some h = absurd (omega arith)
cost_splits_at order k rs (suc l) j some h =
    let e : suc l - 1 ≡ l = omega arith in
    let t : suc l ≡ l + 1 = omega arith in
    let h' : Halves order rs (l + 1) = rw t at h in
    rw (e, t) (sym (cost_splits order k rs l j h'))

-- the entry of a table at one partition order is none of the entries at another
pub entry_kept : (old new : List ℕ) (m p j : ℕ) → ((i : ℕ) → (i < 2 ^ m) ⊎ (2 * 2 ^ m ≤ i) → slice_index new i ≡ slice_index old i) → m < p → entry new p j ≡ entry old p j
entry_kept old new m p j others h = others (2 ^ p + j) (inr (let e : 2 ^ (m + 1) ≤ 2 ^ p = pow-le-pow_right {n = 2} (omega arith) {i = m + 1} {j = p} (omega arith) in omega (arith, power_more (m + 1) (omega arith), ap (λ (n : ℕ). 2 ^ n) (one m))))
  where
    one : (n : ℕ) → n + 1 - 1 ≡ n
    one n = omega arith

-- one parameter more
pub least_more : (k : ℕ) (rs : List ℤ) (old : ℕ) → sum_by (value_cost k) rs < 2 ^ 50 → LeastBelow k rs old → LeastBelow (k + 1) rs (min old (entry_number k (sum_by (value_cost k) rs)))
least_more k rs old small so =
    let n = sum_by (value_cost k) rs in
    let same : (m : ℕ) → k ≤ m → m < k + 1 → entry_number m (sum_by (value_cost m) rs) ≡ entry_number k n = λ m g h. let e : m ≡ k = omega arith in rw e refl in
    elim (cases_lt (entry_number k n) old) [
      | inl b ↦
          let e : min old (entry_number k n) ≡ entry_number k n = omega (arith, b) in
          rw e (record {
            none = λ z. absurd (omega arith);
            some = λ _. (k, omega arith, refl);
            least = λ m h. elim (cases_lt m k) [ inl c ↦ omega (arith, b, so.least m c) | inr c ↦ omega (arith, same m c h) ];
          })
      | inr b ↦
          let some : 0 < k = elim (cases_lt 0 k) [ inl c ↦ c | inr c ↦ absurd (omega (arith, b, small, so.none (omega arith))) ] in
          let e : min old (entry_number k n) ≡ old = omega (arith, b) in
          rw e (record {
            none = λ z. absurd (omega arith);
            some = λ _. let was = so.some some in (was.0, omega (arith, was.1), was.2);
            least = λ m h. elim (cases_lt m k) [ inl c ↦ so.least m c | inr c ↦ omega (arith, b, same m c h) ];
          })
    ]

-- what the pairs of parts of one partition order cost is what the parts of the next coarser one cost
pub paired : (order k l : ℕ) (rs : List ℤ) (old new : List ℕ) → 0 < l → Halves order rs l → ((j : ℕ) → j < 2 ^ l → slice_index old j ≡ sum_by (value_cost k) (part order rs l j))
    → ((j : ℕ) → j < 2 ^ (l - 1) → slice_index new j ≡ slice_index old (2 * j) + slice_index old (2 * j + 1)) → (j : ℕ) → j < 2 ^ (l - 1) → slice_index new j ≡ sum_by (value_cost k) (part order rs (l - 1) j)
paired order k l rs old new some half costs pairs j h =
    let twice' = power_more l some in
    pairs j h ∙ rw (costs (2 * j) (omega arith), costs (2 * j + 1) (omega arith)) (cost_splits_at order k rs l j some half)

pub start_rises : (order block p j : ℕ) → start order block p j ≤ start order block p (j + 1)
start_rises order block p j = let e : (j + 1) * (block / 2 ^ p) ≡ j * (block / 2 ^ p) + block / 2 ^ p = rw add-one (suc-mul j (block / 2 ^ p)) in omega arith

-- the first begins with them
pub start_none : (order block p : ℕ) (ns : List ℕ) → ns ≡ drop (start order block p 0) ns
start_none order block p ns = let first : 0 ≡ start order block p 0 = omega arith in ap (λ (k : ℕ). drop k ns) first

-- the last partition ends with the values
pub start_last : (order : ℕ) (rs : List ℤ) (p : ℕ) → Halves order rs p → start order (length rs + order) p (2 ^ p) ≡ length rs
start_last order rs p h =
    let n = length rs + order in
    let whole : 2 ^ p * (n / 2 ^ p) + n % 2 ^ p ≡ n = div-add-mod n (2 ^ p) in
    omega (arith, h.even)
