-- The exits of a reading call.
use Rattle.std.proofs.Common.{◌≡◌, ℕ, ◌+◌, ◌-◌, ◌≤◌, true, false, not, nat_eq, List, length, Result, Ok, Err, refl, sym, ap, ◌∙◌, arith}
use Rattle.std.proofs.lemmas.Bool.Decides.{nat_tests}
use Rattle.std.specs.Prelude.{OnOk, IfOk}
use Rattle.flac_bits.specs.State.{State, Cursor}
use Rattle.flac_bits.specs.Layout.{Reason, and_then}
use Rattle.flac_bits.specs.inner.Reading.{Goes}
use Rattle.flac_bits.specs.declared.why.Why.{Why}
use Rattle.flac_bits.specs.declared.why.Why.TheVariants.{Memory}
use Rattle.flac_bits.proofs.Counting.{Answered}
use Rattle.flac_bits.proofs.Telling.{Told}

abbrev pub value_of : {X : Type 0} → X → Result X Why
value_of x = Ok x

abbrev pub reason_of : {X : Type 0} → Why → Result X Why
reason_of e = Err e

-- memory did not run out in a call that returned a value
pub had_room : {X : Type 0} {x : X} → value_of x ≡ reason_of Memory → ⊥
had_room q = cc

-- whatever a call returns besides a reason
pub same_room : {X Y : Type 0} {e : Why} → (reason_of {X = Y} e ≡ reason_of Memory → ⊥) → reason_of {X = X} e ≡ reason_of Memory → ⊥
same_room room q = room cc

-- the bits that can still come, after two calls
pub spends_then : (a b old mid new : ℕ) → mid + a ≤ old → new + b ≤ mid → new + 0 ≤ old
spends_then a b old mid new h k = omega arith

-- and where the result of the second is returned as it is
pub spends_last : {X : Type 0} (a b old mid new : ℕ) (result : Result X Why) → mid + a ≤ old → OnOk result (new + b ≤ mid) → OnOk result (new + 0 ≤ old)
spends_last a b old mid new (Ok x) h k = spends_then a b old mid new h k
spends_last a b old mid new (Err e) h k = tt

-- a field and the bytes after it
pub fits_after : (size left : ℕ) (result : Result (List ℕ) Why) → size ≤ left → IfOk result (λ b. length b ≤ left - size) → IfOk result (λ b. size + length b ≤ left)
fits_after size left (Ok b) h k = omega arith
fits_after size left (Err e) h k = tt

-- numbers that differ
pub not_same : (n m : ℕ) → (n ≡ m → ⊥) → nat_eq n m ≡ false
not_same n m h = grind (arith, nat_tests)

-- after a loop: what is still to be read
pub gone_is : {Y : Type 0} {rest whole answer : Result (Y × Cursor) Reason} (old now : State) → Goes old now rest whole → rest ≡ answer → Told whole answer old now
gone_is old now goes is = λ known same. sym (goes.reads known) ∙ is

-- one more turn of a loop: the bytes that are left, and the bits that can still come
pub less_left : (left old size : ℕ) → left ≤ old → left - size ≤ old
less_left left old size le = omega arith

pub spends_turn : (a old now new : ℕ) → now ≤ old → new + a ≤ now → new ≤ old
spends_turn a old now new le h = omega arith

-- after a loop
pub spends_none : (old now : ℕ) → now ≤ old → now + 0 ≤ old
spends_none old now le = omega arith

-- a reason that was passed on
pub reason_is : {X : Type 0} {r : Result X Why} {y e d : Why} → r ≡ reason_of y → y ≡ e → r ≡ reason_of d → e ≡ d
reason_is p q is = cc

-- nothing is left
pub none_over : (n : ℕ) → n ≡ 0 → not (nat_eq n 0) ≡ false
none_over n e = rw e refl

-- the bits that two calls take
pub spends_end : (a b old mid new : ℕ) → mid + a ≤ old → new + b ≤ mid → new + a ≤ old
spends_end a b old mid new h k = omega arith

-- a call before a loop
pub spends_first : (a old new : ℕ) → new + a ≤ old → new ≤ old
spends_first a old new h = omega arith

pub goes_first : {X Y : Type 0} {part : Result (X × Cursor) Reason} {x : X} {rest whole : Result (Y × Cursor) Reason} (old new : State) (more : X → Cursor → Result (Y × Cursor) Reason)
    → Answered old new → whole ≡ and_then part more → (old.known ≡ true → new.errors ≡ old.errors → part ≡ Ok (x, new.cursor)) → more x new.cursor ≡ rest → Goes old new rest whole
goes_first old new more a is r same = record {
  known = a.0;
  errors = a.1;
  raised = a.2;
  after = a.3;
  names = a.4;
  reads = λ known. sym same ∙ sym (ap (λ p. and_then p more) (r known a.1)) ∙ sym is;
}

-- something is left
pub some_over : (n : ℕ) → (n ≡ 0 → ⊥) → not (nat_eq n 0) ≡ true
some_over n h = rw (not_same n 0 h) refl

pub is_none : (n : ℕ) → n ≡ 0 → nat_eq n 0 ≡ true
is_none n e = rw e refl
