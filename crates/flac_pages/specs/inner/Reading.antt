-- For proofs of reading pages: what a call does with a reader of bits.
use Rattle.std.specs.Prelude.{◌≡◌, ℕ, true, length, Result}
use Rattle.flac_bits.specs.State.{State, Cursor}
use Rattle.flac_bits.specs.Layout.{Reason}
use Rattle.flac_bits.specs.Reading.{Gives, CallInPlace}
use Rattle.flac_bits.specs.Unchecked.{begun_anew}
use Rattle.flac_bits.specs.declared.why.Why.{Why}
use Rattle.flac_pages.specs.Page.{Page}

-- A call that allocates nothing gives what is read there, which is now x, and begins the checks anew after it; it takes
-- at least n bits.
abbrev pub GivesAnew : {X A : Type 0} → (n : ℕ) → A → (Cursor → Result (A × Cursor) Reason) → State → State → Result X Why → Type 0
GivesAnew n x read old new result = CallInPlace n (Gives (λ _. x) (begun_anew (read old.cursor))) old new result

-- the same of a page: it takes at least as many bits as its segments have bytes
abbrev pub GivesPage : {X : Type 0} → (p : Page) → (Cursor → Result (Page × Cursor) Reason) → State → State → Result X Why → Type 0
GivesPage p read old new result = GivesAnew (length p.body) p read old new result

-- the bytes stay known, and the source returned no error
abbrev pub StaysCalm : State → State → Type 0
StaysCalm old new = (old.known ≡ true → new.known ≡ true) × (new.errors ≡ old.errors) × (new.raised ≡ old.raised)

-- if the bytes of the source are known and it returned no error in the call
abbrev pub IfKnown : State → State → Type 0 → Type 0
IfKnown old new holds = old.known ≡ true → new.errors ≡ old.errors → holds
