-- The failures of calls of which one fails.
use Rattle.std.specs.Prelude.{◌≡◌, ◌<◌, ◌+◌, ◌-◌, ◌^◌, ℕ, Bool, true, List, [], cond, nat_lt, is_some, Result, IsErr}
use Rattle.flac_bits.specs.State.{After}
use Rattle.flac_bits.specs.declared.failing.FailAt.{FailAt}

-- how many failed of the first `calls` calls, of which the one at index `at` fails
abbrev pub failed : ℕ → ℕ → ℕ
failed at calls = cond (nat_lt at calls) 1 0

-- a count of the device's errors, and the failure that was made
abbrev pub with_failure : {D : Type 0} → (D → ℕ) → FailAt D → ℕ
with_failure errors f = errors f.device + failed f.at f.calls

-- no error was counted
abbrev pub SameCount : {D : Type 0} → (D → ℕ) → FailAt D → FailAt D → Type 0
SameCount errors old new = with_failure errors new ≡ with_failure errors old

-- one was, if the bytes of the device are known
abbrev pub HasRisen : {D : Type 0} → (D → Bool) → (D → ℕ) → FailAt D → FailAt D → Type 0
HasRisen known errors old new = known old.device ≡ true → with_failure errors old < with_failure errors new

-- the call that is to fail does, and the device is not asked
abbrev pub FailsOnce : {D X E : Type 0} → FailAt D → FailAt D → Result X E → Type 0
FailsOnce old new result = old.calls ≡ old.at → old.at < 2 ^ 64 - 1 → IsErr result × (new.device ≡ old.device)

-- of a source: an error that is not counted is the one that comes in place of the end, and no byte is to come before it
abbrev pub IsForeseenBelow : {S : Type 0} → (known : S → Bool) → (errors : S → ℕ) → (coming : S → List ℕ) → (after : S → After) → FailAt S → FailAt S → Type 0
IsForeseenBelow known errors coming after old new = known old.device ≡ true → SameCount errors old new → (coming old.device ≡ []) × (is_some ((after old.device).fails) ≡ true)

-- of a source: if no error is counted, what comes after the bytes to come stays
abbrev pub SameEndBelow : {S : Type 0} → (known : S → Bool) → (errors : S → ℕ) → (after : S → After) → FailAt S → FailAt S → Type 0
SameEndBelow known errors after old new = known old.device ≡ true → SameCount errors old new → after new.device ≡ after old.device
