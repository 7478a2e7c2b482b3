-- Readings that follow one another.
use Rattle.std.proofs.Common.{◌≡◌, Result, Ok, Err, refl, ap}
use Rattle.flac_bits.specs.State.{Cursor, State}
use Rattle.flac_bits.specs.Layout.{and_then, Reason}
use Rattle.flac_bits.specs.inner.Reading.{Goes}

-- a loop that has read nothing yet
pub starts : {Y : Type 0} (old : State) (rest whole : Result Y Reason) → rest ≡ whole → Goes old old rest whole
starts old rest whole e = record { known = λ h. h; errors = refl; raised = refl; after = λ h. refl; names = refl; reads = λ h. e }

-- one reading after another, in the other grouping
pub and_then_and_then : {A B C : Type 0} (r : Result (A × Cursor) Reason) (f : A → Cursor → Result (B × Cursor) Reason) (g : B → Cursor → Result (C × Cursor) Reason) → and_then (and_then r f) g ≡ and_then r (λ x d. and_then (f x d) g)
and_then_and_then (Ok x) f g = refl
and_then_and_then (Err e) f g = refl

pub same_then : {A B : Type 0} (r : Result (A × Cursor) Reason) (f g : A → Cursor → Result (B × Cursor) Reason) → ((x : A) (d : Cursor) → f x d ≡ g x d) → and_then r f ≡ and_then r g
same_then (Ok x) f g h = h x.0 x.1
same_then (Err e) f g h = refl

-- a value that is computed from what was read
pub read_before : {A B : Type 0} (r : Result (A × Cursor) Reason) (f : A → B) (y : B) (d : Cursor) → and_then r (λ x e. Ok (f x, e)) ≡ Ok (y, d) → (x : A) × (r ≡ Ok (x, d)) × (f x ≡ y)
read_before {A = A} {B = B} (Ok (x, e)) f y d is =
    let here : B × Cursor = (f x, e) in
    let there : B × Cursor = (y, d) in
    let both : here ≡ there = cc in
    (x, ap (λ g. okay (x, g)) (ap (λ p. p.1) both), ap (λ p. p.0) both)
  where
    okay : A × Cursor → Result (A × Cursor) Reason
    okay y = Ok y
read_before (Err e) f y d is = absurd (cc)

pub fails_before : {A B : Type 0} (r : Result (A × Cursor) Reason) (f : A → B) (e : Reason) → and_then r (λ x d. Ok (f x, d)) ≡ Err e → r ≡ Err e
fails_before (Ok (x, d)) f e is = absurd (cc)
fails_before (Err w) f e is = let same : w ≡ e = cc in rw same refl
