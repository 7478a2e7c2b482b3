-- Values that are written one after another to a word and the bytes before it.
use Rattle.std.proofs.Common.{◌≡◌, ℕ, ℤ, pos, ◌+◌, ◌-◌, ◌*◌, ◌/◌, ◌%◌, ◌^◌, ◌<◌, ◌≤◌, Bool, List, [], ◌++◌, length, drop, get_or, flat_map, refl, sym, ap, ◌∙◌, arith, append_assoc}
use Rattle.std.proofs.lemmas.List.{append-nil, drop_more, drop_all}
use Rattle.std.proofs.lemmas.Nat.{pow-add, shl_whole, mul-add-lt}
use Rattle.std.proofs.Math.Pow.{pow_mono}
use Rattle.flac_bits.specs.Bits.{unsigned, bits_of}
use Rattle.flac_bits.specs.Rice.{folded, value_bits}
use Rattle.flac_bits.specs.Meaning.{unary_bits}
use Rattle.flac_bits.specs.inner.Runs.{Extends}
use Rattle.flac_bits.proofs.Appending.{put_bits}
use Rattle.flac_bits.proofs.Codes.{rice_bits, rice_fits}
use Rattle.flac_bits.proofs.Holding.{bits_of-append}

pub extends_none : (rest : List Bool) (xs : List ℕ) → Extends [] rest rest xs xs
extends_none rest xs = ([], sym (append-nil xs), sym (append-nil rest))

-- no byte more
pub extends_rest : (text rest rest' : List Bool) (xs : List ℕ) → rest' ≡ rest ++ text → Extends text rest rest' xs xs
extends_rest text rest rest' xs is = ([], sym (append-nil xs), is)

pub extends_then : (a b r s t : List Bool) (xs ys zs : List ℕ) → Extends a r s xs ys → Extends b s t ys zs → Extends (a ++ b) r t xs zs
extends_then a b r s t xs ys zs p q = (
  p.0 ++ q.0,
  q.1 ∙ ap (λ us. us ++ q.0) p.1 ∙ append_assoc xs p.0 q.0,
  ap (λ bs. bs ++ t) (bits_of-append p.0 q.0) ∙ append_assoc (bits_of p.0) (bits_of q.0) t ∙ ap (λ bs. bits_of p.0 ++ bs) q.2
      ∙ sym (append_assoc (bits_of p.0) s b) ∙ ap (λ bs. bs ++ b) p.2 ∙ append_assoc r a b,
)

pub value_step : (k : ℕ) (xs : List ℤ) (i : ℕ) → i < length xs → flat_map (value_bits k) (drop i xs) ≡ value_bits k (get_or xs i (pos 0)) ++ flat_map (value_bits k) (drop (i + 1) xs)
value_step k xs i lt = rw (drop_more xs i (pos 0) lt) refl

pub values_end : (k : ℕ) (xs : List ℤ) (i : ℕ) → length xs ≤ i → flat_map (value_bits k) (drop i xs) ≡ []
values_end k xs i le = rw (drop_all i xs le) refl

-- some values more
pub run_more : (k : ℕ) (xs : List ℤ) (from i next : ℕ) (text more : List Bool) → flat_map (value_bits k) (drop from xs) ≡ text ++ flat_map (value_bits k) (drop i xs)
    → flat_map (value_bits k) (drop i xs) ≡ more ++ flat_map (value_bits k) (drop next xs) → flat_map (value_bits k) (drop from xs) ≡ (text ++ more) ++ flat_map (value_bits k) (drop next xs)
run_more k xs from i next text more is step =
    is ∙ ap (λ bs. text ++ bs) step ∙ sym (append_assoc text more (flat_map (value_bits k) (drop next xs)))

-- two values more
pub pair_step : (k : ℕ) (xs : List ℤ) (i : ℕ) → i + 1 < length xs
    → flat_map (value_bits k) (drop i xs) ≡ (value_bits k (get_or xs i (pos 0)) ++ value_bits k (get_or xs (i + 1) (pos 0))) ++ flat_map (value_bits k) (drop (i + 2) xs)
pair_step k xs i lt =
    let e : i + 1 + 1 ≡ i + 2 = omega arith in
    let a = value_bits k (get_or xs i (pos 0)) in
    let b = value_bits k (get_or xs (i + 1) (pos 0)) in
    value_step k xs i (omega arith) ∙ ap (λ bs. a ++ bs) (value_step k xs (i + 1) lt) ∙ ap (λ j. a ++ (b ++ flat_map (value_bits k) (drop j xs))) e ∙ sym (append_assoc a b (flat_map (value_bits k) (drop (i + 2) xs)))

-- the code of a value, whose folded number is given
pub value_is : (k v : ℕ) (z : ℤ) → v ≡ folded z → unary_bits (v / 2 ^ k) ++ unsigned k v ≡ value_bits k z
value_is k v z is = ap (λ n. unary_bits (n / 2 ^ k) ++ unsigned k n) is

-- the same as one number
pub code_is : (k v : ℕ) (z : ℤ) → k ≤ 32 → v ≡ folded z → unsigned (v / 2 ^ k + 1 + k) (1 * 2 ^ k % 18446744073709551616 + v % (1 * 2 ^ k % 18446744073709551616)) ≡ value_bits k z
code_is k v z le is = rice_bits k v (v / 2 ^ k) le ∙ value_is k v z is

-- two numbers as one
module _ (n m a b : ℕ) (few : n + m ≤ 64) (high : a < 2 ^ n) (low : b < 2 ^ m) where
  pub pair_fits : a * 2 ^ m % 2 ^ 64 + b < 2 ^ (n + m)
  pair_fits =
      let e : n + m ≡ m + n = omega arith in
      let p : 2 ^ (n + m) ≡ 2 ^ m * 2 ^ n = ap (λ j. 2 ^ j) e ∙ pow-add 2 m n in
      rw (shl_whole a n m 64 high few, p) (mul-add-lt a (2 ^ m) b (2 ^ n) high low)

  pub pair_bits : unsigned (n + m) (a * 2 ^ m % 2 ^ 64 + b) ≡ unsigned n a ++ unsigned m b
  pair_bits = put_bits n m a b (64 - m) (omega (arith, few)) (omega (arith, few)) low

-- the codes of two values as one number
pub pair_number : (k v w : ℕ) (x y : ℤ) → k ≤ 32 → v ≡ folded x → w ≡ folded y → (v / 2 ^ k + 1 + k) + (w / 2 ^ k + 1 + k) ≤ 64 →
    let n : ℕ = v / 2 ^ k + 1 + k in
    let m : ℕ = w / 2 ^ k + 1 + k in
    let a : ℕ = 1 * 2 ^ k % 18446744073709551616 + v % (1 * 2 ^ k % 18446744073709551616) in
    let b : ℕ = 1 * 2 ^ k % 18446744073709551616 + w % (1 * 2 ^ k % 18446744073709551616) in
    (a * 2 ^ m % 2 ^ 64 + b < 2 ^ 64) × (a * 2 ^ m % 2 ^ 64 + b < 2 ^ (n + m)) × (unsigned (n + m) (a * 2 ^ m % 2 ^ 64 + b) ≡ value_bits k x ++ value_bits k y)
pair_number k v w x y le is is' few =
    let n : ℕ = v / 2 ^ k + 1 + k in
    let m : ℕ = w / 2 ^ k + 1 + k in
    let a : ℕ = 1 * 2 ^ k % 18446744073709551616 + v % (1 * 2 ^ k % 18446744073709551616) in
    let b : ℕ = 1 * 2 ^ k % 18446744073709551616 + w % (1 * 2 ^ k % 18446744073709551616) in
    let high = rice_fits k v (v / 2 ^ k) le in
    let low = rice_fits k w (w / 2 ^ k) le in
    let fits = pair_fits n m a b few high low in
    let most : 2 ^ (n + m) ≤ 2 ^ 64 = pow_mono {i = n + m} {j = 64} few in (
      omega (arith, fits, most),
      fits,
      pair_bits n m a b few high low ∙ ap (λ bs. bs ++ unsigned m b) (code_is k v x le is) ∙ ap (λ bs. value_bits k x ++ bs) (code_is k w y le is'),
    )
