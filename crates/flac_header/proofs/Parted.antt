-- A header is read as its codes and what comes after them.
use Rattle.std.proofs.Common.{◌≡◌, Result, Ok, Err, refl, ◌∙◌}
use Rattle.flac_bits.specs.State.{State, Cursor}
use Rattle.flac_bits.specs.Layout.{Layout, bind, Reason, run, and_then}
use Rattle.flac_bits.proofs.Telling.{Told}
use Rattle.flac_header.specs.Header.{Header, header}
use Rattle.flac_header.specs.inner.Codes.{Codes, codes, after_codes}

-- a layout is read as a first part and the rest
record IsThen {B C : Type 0} (whole : Layout C) (first : Layout B) (rest : B → Layout C) : Type 0 where
  pub same : (c : Cursor) → run whole c ≡ and_then (run first c) (λ y d. run (rest y) d)

module _ {A B C : Type 0} {f : A → Layout B} {h : A → Layout C} {rest : B → Layout C} (is : (x : A) → IsThen (h x) (f x) rest) where
  joined : (p : Result (A × Cursor) Reason) → and_then p (λ x d. run (h x) d) ≡ and_then (and_then p (λ x d. run (f x) d)) (λ y d. run (rest y) d)
  joined (Ok x) = (is x.0).same x.1
  joined (Err e) = refl

  -- one field more in front
  each : {l : Layout A} → IsThen (bind l h) (bind l f) rest
  each {l = l} = record { same = λ c. joined (run l c) }

header_parts : IsThen header codes after_codes
unfolding header codes after_codes
header_parts = each (λ _. each (λ _. each (λ _. each (λ _. each (λ _. each (λ _. each (λ _. each (λ _. each (λ _. each (λ _. each (λ _. each (λ _. each (λ _. record { same = λ c. refl })))))))))))))

abbrev pub after : Codes → Cursor → Result (Header × Cursor) Reason
after k d = run (after_codes k) d

pub told_header : {answer : Result (Header × Cursor) Reason} (old new : State) → Told (and_then (run codes old.cursor) after) answer old new → Told (run header old.cursor) answer old new
told_header old new told = λ known same. header_parts.same old.cursor ∙ told known same
