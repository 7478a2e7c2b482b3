-- What a value reads, from what its parts read.
use Rattle.std.proofs.Common.{◌≡◌, ℕ, ℤ, ◌-◌, ◌/◌, ◌^◌, ◌<◌, true, nat_lt, Result, Ok, Err, refl, sym, ap, ◌∙◌, arith}
use Rattle.std.proofs.lemmas.Bool.Decides.{nat_tests}
use Rattle.flac_bits.specs.State.{Cursor}
use Rattle.flac_bits.specs.Layout.{run, and_then, number_at, zeros_at, choose, refuse, done, Reason, because}
use Rattle.flac_bits.specs.Rice.{rice, rice_value, unfolded}
use Rattle.flac_bits.specs.Signed.{to_signed, signed_field}
use Rattle.flac_bits.specs.declared.why.Why.TheVariants.{ResidualRange}

abbrev folded_as : ℕ → Cursor → Result (ℤ × Cursor) Reason
folded_as x at = run (choose (nat_lt (2 ^ 32 - 2) x) (refuse ResidualRange) (done (unfolded x))) at

pub value_cut : (k : ℕ) (why : Reason) (c : Cursor) → run (rice k ((2 ^ 32 - 2) / 2 ^ k)) c ≡ Err why → run (rice_value k) c ≡ Err why
unfolding rice_value
value_cut k why c cut = ap (λ r. and_then r folded_as) cut

pub value_large : (k v : ℕ) (c d : Cursor) → run (rice k ((2 ^ 32 - 2) / 2 ^ k)) c ≡ Ok (v, d) → 4294967294 < v
    → run (rice_value k) c ≡ Err (because ResidualRange)
unfolding rice_value
value_large k v c d e large =
    ap (λ r. and_then r folded_as) e ∙ ap (λ b. run (choose b (refuse ResidualRange) (done (unfolded v))) d) (is_lt v large)
  where
    is_lt : (v : ℕ) → 4294967294 < v → nat_lt (2 ^ 32 - 2) v ≡ true
    is_lt v lt = grind (arith, nat_tests)

abbrev signed_as : ℕ → ℕ → Cursor → Result (ℤ × Cursor) Reason
signed_as n v d = Ok (to_signed n v, d)

pub signed_read : (n v : ℕ) (z : ℤ) (c d : Cursor) → number_at n c ≡ Ok (v, d) → z ≡ to_signed n v → run (signed_field n) c ≡ Ok (z, d)
unfolding signed_field
signed_read n v z c d read is = ap (λ r. and_then r (signed_as n)) read ∙ ap (λ x. Ok (x, d)) (sym is)

pub signed_cut : (n : ℕ) (why : Reason) (c : Cursor) → number_at n c ≡ Err why → run (signed_field n) c ≡ Err why
unfolding signed_field
signed_cut n why c cut = ap (λ r. and_then r (signed_as n)) cut

-- a Rice code whose quotient cannot be read
pub rice_cut : (k limit : ℕ) (why : Reason) (c : Cursor) → zeros_at limit c ≡ Err why → run (rice k limit) c ≡ Err why
unfolding rice
rice_cut k limit why c cut = rw cut refl
