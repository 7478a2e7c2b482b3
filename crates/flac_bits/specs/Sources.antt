-- What a call of a source or a target says, by its ghost fields: whether its bytes are known, those to come or those that
-- were sent, what is after them, and a count of errors.
use Rattle.std.specs.Prelude.{◌≡◌, ℕ, Bool, true, List, [], ◌++◌, is_some, None}
use Rattle.flac_bits.specs.State.{After}

-- these bytes came first of those to come
abbrev pub HasGiven : {S : Type 0} → (known : S → Bool) → (coming : S → List ℕ) → List ℕ → S → S → Type 0
HasGiven known coming bytes old new = known old ≡ true → coming old ≡ bytes ++ coming new

-- no byte is to come, and the end follows
abbrev pub Ended : {S : Type 0} → (known : S → Bool) → (coming : S → List ℕ) → (after : S → After) → S → Type 0
Ended known coming after s = known s ≡ true → (coming s ≡ []) × ((after s).fails ≡ None)

-- an error that is not counted is the one that comes in place of the end, and no byte is to come before it
abbrev pub IsForeseen : {S : Type 0} → (known : S → Bool) → (errors : S → ℕ) → (coming : S → List ℕ) → (after : S → After) → S → S → Type 0
IsForeseen known errors coming after old new = known old ≡ true → errors new ≡ errors old → (coming old ≡ []) × (is_some ((after old).fails) ≡ true)

-- if no error is counted, what comes after the bytes to come stays
abbrev pub SameEnd : {S : Type 0} → (known : S → Bool) → (errors : S → ℕ) → (after : S → After) → S → S → Type 0
SameEnd known errors after old new = known old ≡ true → errors new ≡ errors old → after new ≡ after old

-- these bytes were sent after those before
abbrev pub Sent : {W : Type 0} → (known : W → Bool) → (sent : W → List ℕ) → List ℕ → W → W → Type 0
Sent known sent bytes old new = known old ≡ true → sent new ≡ sent old ++ bytes

-- none was sent
abbrev pub SentNone : {W : Type 0} → (known : W → Bool) → (sent : W → List ℕ) → W → W → Type 0
SentNone known sent old new = known old ≡ true → sent new ≡ sent old
