-- One more turn of the loop that reads the bytes of a coded number.
use Rattle.std.proofs.Common.{◌≡◌, ◌≢◌, ℕ, ◌+◌, ◌-◌, ◌*◌, ◌/◌, ◌%◌, ◌<◌, true, false, nat_eq, Result, Ok, Err, sym, ap, ◌∙◌, arith}
use Rattle.std.proofs.lemmas.Bool.Decides.{nat_tests}
use Rattle.flac_bits.specs.State.{State, Cursor}
use Rattle.flac_bits.specs.Layout.{refuse, choose, run, and_then, number_at, Reason, because}
use Rattle.flac_bits.specs.Number.{continued}
use Rattle.flac_bits.specs.declared.why.Why.TheVariants.{BadNumber}
use Rattle.flac_bits.specs.inner.Reading.{Goes}
use Rattle.flac_bits.proofs.Counting.{Answered}
use Rattle.flac_bits.proofs.Loops.{goes_on}
use Rattle.flac_bits.proofs.Numbers.{continued_more}

-- what follows such a byte
abbrev after_byte : ℕ → ℕ → ℕ → ℕ → Cursor → Result (ℕ × Cursor) Reason
after_byte n i value byte d = run (choose (nat_eq (byte / 64) 2) (continued (n - (i + 1)) (64 * value + byte % 64)) (refuse BadNumber)) d

pub byte_turn : (n i value byte high : ℕ) (old now next : State) → i < n → byte / 64 ≡ 2
    → Goes old now (run (continued (n - i) value) now.cursor) (run (continued n high) old.cursor) → Answered now next
    → (now.known ≡ true → next.errors ≡ now.errors → number_at 8 now.cursor ≡ Ok (byte, next.cursor))
    → Goes old next (run (continued (n - (i + 1)) (64 * value + byte % 64)) next.cursor) (run (continued n high) old.cursor)
byte_turn n i value byte high old now next lt two goes counts reads =
    goes_on old now next (number_at 8 now.cursor) byte (after_byte n i value) _ _ _
    goes (continued_more n i value now.cursor lt)
    (ap (λ k. run (choose (nat_eq k 2) (continued (n - (i + 1)) (64 * value + byte % 64)) (refuse BadNumber)) next.cursor) two)
    counts reads

pub byte_cut : (n i value high : ℕ) (e : Reason) (old now : State) → i < n
    → Goes old now (run (continued (n - i) value) now.cursor) (run (continued n high) old.cursor) → old.known ≡ true
    → number_at 8 now.cursor ≡ Err e → run (continued n high) old.cursor ≡ Err e
byte_cut n i value high e old now lt goes known cut =
    sym (goes.reads known) ∙ continued_more n i value now.cursor lt ∙ ap (λ r. and_then r (after_byte n i value)) cut

pub byte_bad : (n i value byte high : ℕ) (old now next : State) → i < n → byte / 64 ≢ 2
    → Goes old now (run (continued (n - i) value) now.cursor) (run (continued n high) old.cursor) → old.known ≡ true
    → number_at 8 now.cursor ≡ Ok (byte, next.cursor) → run (continued n high) old.cursor ≡ Err (because BadNumber)
byte_bad n i value byte high old now next lt other goes known read =
    sym (goes.reads known) ∙ continued_more n i value now.cursor lt ∙ ap (λ r. and_then r (after_byte n i value)) read
    ∙ ap (λ b. run (choose b (continued (n - (i + 1)) (64 * value + byte % 64)) (refuse BadNumber)) next.cursor) (not_two (byte / 64) other)
  where
    not_two : (k : ℕ) → k ≢ 2 → nat_eq k 2 ≡ false
    not_two k ne = grind (arith, nat_tests)
