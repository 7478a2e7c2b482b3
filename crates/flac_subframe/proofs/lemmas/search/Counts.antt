-- How often values are priced: at most b times for each predictor.
use Rattle.std.proofs.Common.{◌≡◌, ℕ, ◌+◌, ◌*◌, ◌≤◌, ◌<◌, arith, inl, inr, suc}
use Rattle.std.proofs.lemmas.Bool.{cases_lt}
use Rattle.std.proofs.lemmas.Nat.{mul-le}
use Rattle.std.proofs.Math.Nat.{suc-mul}

-- one predictor: the width and the bits under parameter 0, a bound that is not asked for where the width w is large, and
-- at most 30 parameters, and at most w
pub within_limit : (n w v old mid new : ℕ) → v ≤ 2 * n → (28 < w → v ≡ 0) → mid ≤ old + (2 * n + v) → new ≤ mid + 30 * n → new ≤ mid + w * n → new ≤ old + 32 * n
within_limit n w v old mid new few none a most narrow = elim (cases_lt 28 w) [
  | inl wide ↦ omega (arith, none wide, most, a)
  | inr not ↦ omega (arith, few, mul-le w n 28 n (omega (arith, not)) (omega arith), a, narrow)
]

-- one of the finer partition orders more
pub order_more : (n d old v : ℕ) → old ≤ (1 + 4 * d) * n → v ≤ 4 * n → old + v ≤ (1 + 4 * (d + 1)) * n
order_more n d old v so few =
    let k : ℕ = 1 + 4 * d in
    let e : 1 + 4 * (d + 1) ≡ suc (suc (suc (suc k))) = omega arith in
    rw e (omega (arith, so, few, suc-mul k n, suc-mul (suc k) n, suc-mul (suc (suc k)) n, suc-mul (suc (suc (suc k))) n))

pub orders_all : (n d old : ℕ) → d ≤ 7 → old ≤ (1 + 4 * d) * n → old ≤ 29 * n
orders_all n d old few so = omega (arith, so, mul-le (1 + 4 * d) n 29 n (omega (arith, few)) (omega arith))

-- the first predictor was priced, and each fixed one below i
pub record Counted (first i b old new : ℕ) : Type 0 where
  pub before : i ≤ first → new ≤ old + (i + 1) * b
  pub after : first < i → new ≤ old + i * b

-- one predictor more
pub next : (i b old new more : ℕ) → new ≤ old + i * b → more ≤ new + b → more ≤ old + (i + 1) * b
next i b old new more so less =
    let e : i + 1 ≡ suc i = omega arith in
    rw e (omega (arith, so, less, suc-mul i b))

pub counted_first : (first b old new : ℕ) → new ≤ old + b → Counted first 0 b old new
counted_first first b old new le = record { before = λ h. omega (arith, le); after = λ h. absurd (omega (arith, h)) }

pub counted_more : (first i b old new more : ℕ) → (i ≡ first → ⊥) → Counted first i b old new → more ≤ new + b → Counted first (i + 1) b old more
counted_more first i b old new more not so less = record {
  before = λ h. next (i + 1) b old new more (so.before (omega (arith, h))) less;
  after = λ h. next i b old new more (so.after (omega (arith, h, not))) less;
}

pub counted_same : (first i b old new : ℕ) → i ≡ first → Counted first i b old new → Counted first (i + 1) b old new
counted_same first i b old new is so = record { before = λ h. absurd (omega (arith, h, is)); after = λ h. so.before (omega (arith, is)) }

-- one predictor after n others
pub next_after : (old n b i mid new : ℕ) → i ≡ n → mid ≤ old + i * b → new ≤ mid + b → new ≤ old + n * b + b
next_after old n b i mid new is so more = rw (← is) (omega (arith, so, more))

-- n linear predictors and the five fixed ones
pub counted_all : (n b old new : ℕ) → new ≤ old + n * b + 5 * b → new ≤ old + (5 + n) * b
counted_all n b old new so =
    let e : 5 + n ≡ suc (suc (suc (suc (suc n)))) = omega arith in
    rw e (omega (arith, so, suc-mul n b, suc-mul (suc n) b, suc-mul (suc (suc n)) b, suc-mul (suc (suc (suc n))) b, suc-mul (suc (suc (suc (suc n)))) b))
