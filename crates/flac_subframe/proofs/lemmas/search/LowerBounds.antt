-- What a residual costs at least in whatever partitions: what the finest partitions do, each by itself.
use Rattle.std.proofs.Common.{◌≡◌, ◌∙◌, ◌⊎◌, inl, inr, refl, sym, ap, ℕ, zero, suc, ◌+◌, ◌-◌, ◌*◌, ◌/◌, ◌^◌, ◌≤◌, ◌<◌, arith, ℤ, List, [], ◌∷◌, ◌++◌, length, take, drop, All, length-append}
use Rattle.std.specs.List.{sum_by}
use Rattle.std.proofs.lemmas.List.Sums.{sum_by-cons, sum_by-append}
use Rattle.std.proofs.lemmas.List.Elements.{All-take, All-drop}
use Rattle.std.proofs.lemmas.List.{take-append-drop, take-take, drop-take, drop-drop}
use Rattle.std.proofs.lemmas.Nat.{pow-add, pow_pos, mul-le}
use Rattle.std.proofs.lemmas.Bool.{cases_lt}
use Rattle.std.proofs.Math.Nat.{div-mul-le_self, lt-div-mul-add, le_of_mul-le-mul_right}
use Rattle.flac_subframe.specs.declared.format.coding.Coding.{Coding}
use Rattle.flac_subframe.specs.declared.format.coding.Coding.TheVariants.{Rice, Escape}
use Rattle.flac_subframe.specs.format.Cost.{Codings, MayCode, MayCodeEach, MayWrite}
use Rattle.flac_subframe.specs.format.inner.Cost.{value_cost, coding_cost, partitions_cost, residual_cost}
use Rattle.flac_subframe.specs.search.inner.Halves.{Halves}
use Rattle.flac_bits.specs.Rice.{folded}
use Rattle.flac_subframe.specs.format.Spelling.{FitsWidth}
use Rattle.flac_subframe.proofs.lemmas.search.Splits.{coarser, power_more, twice}

-- ---- the values of one partition under a Rice parameter

-- what a value takes but for its lowest bits
abbrev quotient_cost : ℕ → ℤ → ℕ
quotient_cost k r = folded r / 2 ^ k + 1

scaled : (k : ℕ) (rs : List ℤ) → sum_by (value_cost 0) rs ≤ sum_by (quotient_cost k) rs * 2 ^ k
scaled k [] = omega arith
scaled k (r ∷ rs) =
    let one : folded r < folded r / 2 ^ k * 2 ^ k + 2 ^ k = lt-div-mul-add (pow_pos k) in
    rw (sum_by-cons (quotient_cost k) r rs, sum_by-cons (value_cost 0) r rs) (omega (arith, one, scaled k rs))

cost_is : (k : ℕ) (rs : List ℤ) → sum_by (value_cost k) rs ≡ sum_by (quotient_cost k) rs + length rs * k
cost_is k [] = omega arith
cost_is k (r ∷ rs) = omega (arith, sum_by-cons (value_cost k) r rs, sum_by-cons (quotient_cost k) r rs, cost_is k rs)

ones : (k : ℕ) (rs : List ℤ) → length rs ≤ sum_by (quotient_cost k) rs
ones k [] = omega arith
ones k (r ∷ rs) = omega (arith, sum_by-cons (quotient_cost k) r rs, ones k rs)

pub grows : (m : ℕ) → m + 1 ≤ 2 ^ m
grows zero = omega arith
grows (suc m) = omega (arith, grows m)

module _ (rs : List ℤ) (t q : ℕ) (some : length rs ≤ q) (few : q < 2 * length rs) (is : q ≡ sum_by (value_cost 0) rs / 2 ^ t) where
  below : (k m : ℕ) → t ≡ m + k → length rs * t + q ≤ sum_by (value_cost k) rs
  below k m e =
      let a : q * 2 ^ t ≤ sum_by (value_cost 0) rs = rw is (div-mul-le_self (sum_by (value_cost 0) rs) (2 ^ t)) in
      let p : 2 ^ t ≡ 2 ^ m * 2 ^ k = rw e (pow-add 2 m k) in
      let b : q * 2 ^ m * 2 ^ k ≤ sum_by (quotient_cost k) rs * 2 ^ k = omega (arith, a, scaled k rs, ap (λ (z : ℕ). q * z) p) in
      let c : q * 2 ^ m ≤ sum_by (quotient_cost k) rs = le_of_mul-le-mul_right b (pow_pos k) in
      let d : q * (m + 1) ≤ q * 2 ^ m = mul-le q (m + 1) q (2 ^ m) (omega arith) (grows m) in
      let f : length rs * m ≤ q * m = mul-le (length rs) m q m some (omega arith) in
      let g : length rs * t ≡ length rs * m + length rs * k = rw e (omega arith) in
      omega (arith, c, d, f, g, cost_is k rs)

  above : (k : ℕ) → t < k → length rs * t + q ≤ sum_by (value_cost k) rs
  above k h =
      let a : length rs * (t + 1) ≤ length rs * k = mul-le (length rs) (t + 1) (length rs) k (omega arith) (omega arith) in
      omega (arith, a, cost_is k rs, ones k rs, few)

  pub rice_at_least : (k : ℕ) → length rs * t + q ≤ sum_by (value_cost k) rs
  rice_at_least k = elim (cases_lt t k) [ inl h ↦ above k h | inr h ↦ below k (t - k) (omega arith) ]

-- ---- what the values of partitions cost, but for the fields of the partitions

abbrev pub values_cost : Coding → List ℤ → ℕ
values_cost (Rice k) rs = sum_by (value_cost k) rs
values_cost (Escape n) rs = n * length rs

abbrev pub each_cost : ℕ → ℕ → List ℤ → List Coding → ℕ
each_cost first size rs [] = 0
each_cost first size rs (c ∷ cs) = values_cost c (take first rs) + each_cost size size (drop first rs) cs

one_within : (c : Coding) (rs : List ℤ) → values_cost c rs ≤ coding_cost c rs
one_within (Rice k) rs = omega arith
one_within (Escape n) rs = omega arith

each_within : (w first size : ℕ) (rs : List ℤ) (cs : List Coding) → each_cost first size rs cs ≤ partitions_cost w first size rs cs
unfolding partitions_cost
each_within w first size rs [] = omega arith
each_within w first size rs (c ∷ cs) = omega (arith, one_within c (take first rs), each_within w size size (drop first rs) cs)

-- each partition has a parameter of four bits or more
fields_within : (w first size : ℕ) (rs : List ℤ) (cs : List Coding) → 4 ≤ w → each_cost first size rs cs + 4 * length cs ≤ partitions_cost w first size rs cs
unfolding partitions_cost
fields_within w first size rs [] four = omega arith
fields_within w first size rs (c ∷ cs) four = omega (arith, one_within c (take first rs), fields_within w size size (drop first rs) cs four)

-- ---- a coding for a partition does for both of its halves

abbrev halved : List Coding → List Coding
halved [] = []
halved (c ∷ cs) = c ∷ c ∷ halved cs

length-halved : (cs : List Coding) → length (halved cs) ≡ 2 * length cs
length-halved [] = refl
length-halved (c ∷ cs) = omega (arith, length-halved cs)

values_joined : (c : Coding) (xs ys : List ℤ) → values_cost c (xs ++ ys) ≡ values_cost c xs + values_cost c ys
values_joined (Rice k) xs ys = sum_by-append (value_cost k) xs ys
values_joined (Escape n) xs ys = rw (length-append xs ys) (omega arith)

module _ (a s : ℕ) (rs : List ℤ) where
  front_of : take a (take (a + s) rs) ≡ take a rs
  front_of = take-take a (a + s) rs (omega arith)

  back_of : drop a (take (a + s) rs) ≡ take s (drop a rs)
  back_of = drop-take a s rs

  two_parts : take (a + s) rs ≡ take a rs ++ take s (drop a rs)
  two_parts = sym (take-append-drop a (take (a + s) rs)) ∙ rw (front_of, back_of) refl

  after : drop s (drop a rs) ≡ drop (a + s) rs
  after = drop-drop s a rs ∙ ap (λ (k : ℕ). drop k rs) (omega arith)

  may_front : (w : ℕ) (c : Coding) → MayCode w (take (a + s) rs) c → MayCode w (take a rs) c
  may_front w (Rice k) m = m
  may_front w (Escape n) m = (m.0, rw front_of at (All-take (FitsWidth n) a (take (a + s) rs) m.1))

  may_back : (w : ℕ) (c : Coding) → MayCode w (take (a + s) rs) c → MayCode w (take s (drop a rs)) c
  may_back w (Rice k) m = m
  may_back w (Escape n) m = (m.0, rw back_of at (All-drop (FitsWidth n) a (take (a + s) rs) m.1))

may_halved : (w a s : ℕ) (rs : List ℤ) (cs : List Coding) → MayCodeEach w (a + s) (s + s) rs cs → MayCodeEach w a s rs (halved cs)
may_halved w a s rs [] m = tt
may_halved w a s rs (c ∷ cs) m =
    let rest : MayCodeEach w (s + s) (s + s) (drop s (drop a rs)) cs = rw (after a s rs) m.1 in
    (may_front a s rs w c m.0, (may_back a s rs w c m.0, may_halved w s s (drop s (drop a rs)) cs rest))

cost_halved : (a s : ℕ) (rs : List ℤ) (cs : List Coding) → each_cost a s rs (halved cs) ≡ each_cost (a + s) (s + s) rs cs
cost_halved a s rs [] = refl
cost_halved a s rs (c ∷ cs) =
    let rest : each_cost s s (drop s (drop a rs)) (halved cs) ≡ each_cost (s + s) (s + s) (drop (a + s) rs) cs = cost_halved s s (drop s (drop a rs)) cs ∙ ap (λ (k : List ℤ). each_cost (s + s) (s + s) k cs) (after a s rs) in
    let here : values_cost c (take (a + s) rs) ≡ values_cost c (take a rs) + values_cost c (take s (drop a rs)) = ap (values_cost c) (two_parts a s rs) ∙ values_joined c (take a rs) (take s (drop a rs)) in
    omega (arith, rest, here)

-- ---- a bound for the finest partitions holds for all

-- no codings at a partition order cost less
abbrev pub Bounds : ℕ → ℕ → List ℤ → ℕ → ℕ → Type 0
Bounds w order rs b p = (cs : List Coding) → length cs ≡ 2 ^ p → MayCodeEach w ((length rs + order) / 2 ^ p - order) ((length rs + order) / 2 ^ p) rs cs → b ≤ each_cost ((length rs + order) / 2 ^ p - order) ((length rs + order) / 2 ^ p) rs cs

bound_coarser : (w order : ℕ) (rs : List ℤ) (b p : ℕ) → Halves order rs (p + 1) → Bounds w order rs b (p + 1) → Bounds w order rs b p
bound_coarser w order rs b p half so cs long may =
    let s : ℕ = (length rs + order) / 2 ^ (p + 1) in
    let t : (length rs + order) / 2 ^ p ≡ 2 * s = twice (length rs + order) p half.even in
    let first : (length rs + order) / 2 ^ p - order ≡ s - order + s = omega (arith, t, half.room) in
    let size : (length rs + order) / 2 ^ p ≡ s + s = omega (arith, t) in
    let one : p + 1 - 1 ≡ p = omega arith in
    let more : 2 ^ (p + 1) ≡ 2 * 2 ^ p = rw one at (power_more (p + 1) (omega arith)) in
    let may' : MayCodeEach w (s - order + s) (s + s) rs cs = rw (first, size) at may in
    rw (first, size, ← cost_halved (s - order) s rs cs) (so (halved cs) (omega (arith, length-halved cs, long, more)) (may_halved w (s - order) s rs cs may'))

bound_down : (w order : ℕ) (rs : List ℤ) (b n p : ℕ) → Halves order rs (n + p) → Bounds w order rs b (n + p) → Bounds w order rs b p
bound_down w order rs b zero p half so = let e : 0 + p ≡ p = omega arith in rw e at so
bound_down w order rs b (suc n) p half so =
    let e : suc n + p ≡ n + p + 1 = omega arith in
    let half' : Halves order rs (n + p + 1) = rw e at half in
    let so' : Bounds w order rs b (n + p + 1) = rw e at so in
    bound_down w order rs b n p (coarser order rs (n + p) half') (bound_coarser w order rs b (n + p) half' so')

pub four_bits : (w : ℕ) → (w ≡ 4) ⊎ (w ≡ 5) → 4 ≤ w
four_bits w (inl e) = omega (arith, e)
four_bits w (inr e) = omega (arith, e)

-- beside the header and the parameters
pub bound_beside : (order h : ℕ) (rs : List ℤ) (b : ℕ) → Halves order rs h → ((w : ℕ) → Bounds w order rs b h) → (f : Codings) → MayWrite h order rs f → b + (6 + 4 * 2 ^ f.partition_order) ≤ residual_cost order rs f
bound_beside order h rs b half so f m =
    let p : ℕ = f.partition_order in
    let w : ℕ = f.parameter_bits in
    let e : h - p + p ≡ h = omega (arith, m.few) in
    let here : Bounds w order rs b p = bound_down w order rs b (h - p) p (rw e half) (rw e (so w)) in
    omega (arith, m.each, here f.codings m.each m.codings, fields_within w ((length rs + order) / 2 ^ p - order) ((length rs + order) / 2 ^ p) rs f.codings (four_bits w m.method))

pub bound_of_all : (order h : ℕ) (rs : List ℤ) (b : ℕ) → Halves order rs h → ((w : ℕ) → Bounds w order rs b h) → (f : Codings) → MayWrite h order rs f → b ≤ residual_cost order rs f
bound_of_all order h rs b half so f m =
    let p : ℕ = f.partition_order in
    let w : ℕ = f.parameter_bits in
    let e : h - p + p ≡ h = omega (arith, m.few) in
    let here : Bounds w order rs b p = bound_down w order rs b (h - p) p (rw e half) (rw e (so w)) in
    omega (arith, here f.codings m.each m.codings, each_within w ((length rs + order) / 2 ^ p - order) ((length rs + order) / 2 ^ p) rs f.codings)

-- at the finest partition order itself the parameters come on top of it
pub bound_of_last : (order h : ℕ) (rs : List ℤ) (b : ℕ) → ((w : ℕ) → Bounds w order rs b h) → (f : Codings) → MayWrite h order rs f → f.partition_order ≡ h → b + (6 + 4 * 2 ^ h) ≤ residual_cost order rs f
bound_of_last order h rs b so f m e =
    let w : ℕ = f.parameter_bits in
    let p : ℕ = f.partition_order in
    let here : Bounds w order rs b p = rw e (so w) in
    let many : length f.codings ≡ 2 ^ h = rw e at m.each in
    omega (arith, many, here f.codings m.each m.codings, fields_within w ((length rs + order) / 2 ^ p - order) ((length rs + order) / 2 ^ p) rs f.codings (four_bits w m.method))

-- ---- one partition after another

-- what stands when some partitions have a bound, and the last ones are left
pub record BoundTo (w first size count : ℕ) (rs : List ℤ) (bits long left : ℕ) (rest : List ℤ) : Type 0 where
  pub goes : (cs : List Coding) → length cs ≡ count → MayCodeEach w first size rs cs → (tail : List Coding) × (length tail ≡ left) × MayCodeEach w long size rest tail × (bits + each_cost long size rest tail ≤ each_cost first size rs cs)

pub bound_start : (w first size count : ℕ) (rs : List ℤ) → BoundTo w first size count rs 0 first count rs
bound_start w first size count rs = record { goes = λ cs long may. (cs, long, may, omega arith) }

part_at_least : (w b : ℕ) (xs : List ℤ) (c : Coding) → ((k : ℕ) → b ≤ sum_by (value_cost k) xs) → ((n : ℕ) → All (FitsWidth n) xs → b ≤ n * length xs) → MayCode w xs c → b ≤ values_cost c xs
part_at_least w b xs (Rice k) rice escape m = rice k
part_at_least w b xs (Escape n) rice escape m = escape n m.1

module _ (w first size count : ℕ) (rs : List ℤ) (bits long m : ℕ) (rest : List ℤ) (b : ℕ) (rice : (k : ℕ) → b ≤ sum_by (value_cost k) (take long rest)) (escape : (n : ℕ) → All (FitsWidth n) (take long rest) → b ≤ n * length (take long rest)) where
  next_tail : (total : ℕ) (tail : List Coding) → length tail ≡ suc m → MayCodeEach w long size rest tail → bits + each_cost long size rest tail ≤ total →
      (next : List Coding) × (length next ≡ m) × MayCodeEach w size size (drop long rest) next × (bits + b + each_cost size size (drop long rest) next ≤ total)
  next_tail total [] e may le = absurd (omega (arith, e))
  next_tail total (c ∷ cs) e may le = (cs, omega (arith, e), may.1, omega (arith, le, part_at_least w b (take long rest) c rice escape may.0))

  pub bound_more : BoundTo w first size count rs bits long (suc m) rest → BoundTo w first size count rs (bits + b) size m (drop long rest)
  bound_more so = record { goes = λ cs e may. let was = so.goes cs e may in next_tail (each_cost first size rs cs) was.0 was.1 was.2 was.3 }

pub bound_end : (w first size count : ℕ) (rs : List ℤ) (bits long left : ℕ) (rest : List ℤ) → BoundTo w first size count rs bits long left rest → (cs : List Coding) → length cs ≡ count → MayCodeEach w first size rs cs → bits ≤ each_cost first size rs cs
bound_end w first size count rs bits long left rest so cs e may = let was = so.goes cs e may in omega (arith, was.3)
