-- What a device promises of its counts, beside a count that stays.
use Rattle.std.proofs.Common.{◌≡◌, ℕ, ◌+◌, ◌<◌, false, nat_eq, nat_lt, ◌&&◌, Result, Ok, Err, OnOk, OnErr, arith}
use Rattle.std.proofs.lemmas.Bool.Decides.{nat_tests}
use Rattle.flac_bits.specs.State.{Rises}

pub same_beside : {X E : Type 0} (r : Result X E) (a' a b' b f' f : ℕ) → f' ≡ f → OnOk r ((a' ≡ a) × (b' ≡ b)) → OnOk r ((a' + f' ≡ a + f) × (b' + f' ≡ b + f))
same_beside (Ok x) a' a b' b f' f same h = (omega (arith, same, h.0), omega (arith, same, h.1))
same_beside (Err e) a' a b' b f' f same h = tt

pub foreseen_beside : {X E : Type 0} (r : Result X E) (K P : Type 0) (a' a f' f : ℕ) → f' ≡ f → OnErr r (K → a' ≡ a → P) → OnErr r (K → a' + f' ≡ a + f → P)
foreseen_beside (Ok x) K P a' a f' f same h = tt
foreseen_beside (Err e) K P a' a f' f same h = λ k is. h k (omega (arith, same, is))

pub rises_beside : {X E : Type 0} (r : Result X E) (K : Type 0) (a' a f' f : ℕ) → f' ≡ f → OnErr r (K → a < a') → OnErr r (K → a + f < a' + f')
rises_beside (Ok x) K a' a f' f same h = tt
rises_beside (Err e) K a' a f' f same h = λ k. omega (arith, same, h k)

pub risen_beside : {X E : Type 0} (r : Result X E) (a' a f' f : ℕ) → f' ≡ f → OnErr r (Rises a a') → OnErr r (Rises (a + f) (a' + f'))
risen_beside (Ok x) a' a f' f same h = tt
risen_beside (Err e) a' a f' f same h = λ lt. omega (arith, same, lt, h (omega (arith, lt)))

pub not_now : (calls at : ℕ) → false ≡ nat_eq calls at && nat_lt calls 18446744073709551615 → calls ≡ at → at < 18446744073709551615 → ⊥
not_now calls at answer is lt = grind (arith, nat_tests)

pub counted_beside : {X E : Type 0} (r : Result X E) (a' a f' f : ℕ) → f' ≡ f → OnOk r (a' ≡ a) → OnOk r (a' + f' ≡ a + f)
counted_beside (Ok x) a' a f' f same h = omega (arith, same, h)
counted_beside (Err e) a' a f' f same h = tt
