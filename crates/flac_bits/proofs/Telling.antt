-- What several calls one after another read.
use Rattle.std.proofs.Common.{◌≡◌, true, Result, Ok, Err, sym, ap, ◌∙◌}
use Rattle.flac_bits.specs.State.{State, Cursor}
use Rattle.flac_bits.specs.Layout.{Reason, and_then, because}
use Rattle.flac_bits.specs.inner.Reading.{Goes}
use Rattle.flac_bits.specs.declared.why.Why.{Why}
use Rattle.flac_bits.proofs.Counting.{Answered}

-- the clause Reads, of what is read from the old cursor on
abbrev pub Told : {Y : Type 0} → Result (Y × Cursor) Reason → Result (Y × Cursor) Reason → State → State → Type 0
Told read answer old new = old.known ≡ true → new.errors ≡ old.errors → read ≡ answer

-- after a call that returned a value
pub told_then : {A Y : Type 0} {part : Result (A × Cursor) Reason} {x : A} {d : Cursor} {answer : Result (Y × Cursor) Reason} (old mid new : State) (more : A → Cursor → Result (Y × Cursor) Reason)
    → Answered old mid → (old.known ≡ true → mid.errors ≡ old.errors → part ≡ Ok (x, d)) → Told (more x d) answer mid new → Told (and_then part more) answer old new
told_then old mid new more a r q = λ known same. ap (λ p. and_then p more) (r known a.1) ∙ q (a.0 known) (same ∙ sym a.1)

-- a call that returned a reason
pub told_fault : {A Y : Type 0} {part : Result (A × Cursor) Reason} {e : Why} (old new : State) (more : A → Cursor → Result (Y × Cursor) Reason)
    → (old.known ≡ true → new.errors ≡ old.errors → part ≡ Err (because e)) → Told (and_then part more) (Err (because e)) old new
told_fault old new more r = λ known same. ap (λ p. and_then p more) (r known same)

-- after a loop that went so far: a call that returned a reason
pub gone_fault : {A Y : Type 0} {part : Result (A × Cursor) Reason} {rest whole : Result (Y × Cursor) Reason} {e : Why} (old now new : State) (more : A → Cursor → Result (Y × Cursor) Reason)
    → Goes old now rest whole → rest ≡ and_then part more → (now.known ≡ true → new.errors ≡ now.errors → part ≡ Err (because e)) → Told whole (Err (because e)) old new
gone_fault old now new more h is r = λ known same. sym (h.reads known) ∙ is ∙ ap (λ p. and_then p more) (r (h.known known) (same ∙ sym h.errors))

-- and one that returned a value
pub gone_then : {A Y : Type 0} {part : Result (A × Cursor) Reason} {rest whole : Result (Y × Cursor) Reason} {x : A} {d : Cursor} (old now new : State) (more : A → Cursor → Result (Y × Cursor) Reason)
    → Goes old now rest whole → rest ≡ and_then part more → (now.known ≡ true → new.errors ≡ now.errors → part ≡ Ok (x, d)) → Told whole (more x d) old new
gone_then old now new more h is r = λ known same. sym (h.reads known) ∙ is ∙ ap (λ p. and_then p more) (r (h.known known) (same ∙ sym h.errors))

-- ---- rules that are judged between what several calls read

-- none of them is broken
pub told_past : {Y : Type 0} {read : Result (Unit {0} × Cursor) Reason} {answer : Result (Y × Cursor) Reason} (old new : State) (place : Cursor) (more : Unit {0} → Cursor → Result (Y × Cursor) Reason)
    → read ≡ Ok (tt, place) → Told (more tt place) answer old new → Told (and_then read more) answer old new
told_past old new place more is q = λ known same. ap (λ p. and_then p more) is ∙ q known same

-- one of them is broken
pub told_broken : {Y : Type 0} {read : Result (Unit {0} × Cursor) Reason} {e : Why} (old new : State) (more : Unit {0} → Cursor → Result (Y × Cursor) Reason)
    → read ≡ Err (because e) → Told (and_then read more) (Err (because e)) old new
told_broken old new more is = λ known same. ap (λ p. and_then p more) is
