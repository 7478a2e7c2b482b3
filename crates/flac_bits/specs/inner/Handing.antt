-- For proofs of decoding: what one step of a loop does that reads a stream item by item.
use Rattle.std.specs.Prelude.{◌≡◌, ◌≢◌, true, Option, Some, None, Result, Ok, Err}
use Rattle.flac_bits.specs.State.{Cursor, State}
use Rattle.flac_bits.specs.Items.{Step, item, over, refused}
use Rattle.flac_bits.specs.declared.why.Why.{Why}
use Rattle.flac_bits.specs.declared.why.Why.TheVariants.{Memory}

-- the result, seen by view, is what the step gives, unless memory ran out
abbrev pub StepIs : {X E I P : Type 0} → (X → I) → (E → P × Why) → Step I P → Cursor → Result (Option X) E → Type 0
StepIs view told step at (Ok None) = step ≡ over
StepIs view told step at (Ok (Some x)) = step ≡ item (view x) at
StepIs view told step at (Err e) = (told e).1 ≢ Memory → step ≡ refused (told e).0 (told e).1

-- this holds if the bytes of the source are known and it returned no error in the call, foretold or not
abbrev pub StepsTo : {X E I P : Type 0} → (X → I) → (E → P × Why) → Step I P → State → State → Result (Option X) E → Type 0
StepsTo view told step old new result = old.known ≡ true → new.errors ≡ old.errors → new.raised ≡ old.raised → StepIs view told step new.cursor result

-- the source returned no error
abbrev pub IsCalm : State → State → Type 0
IsCalm old new = (new.errors ≡ old.errors) × (new.raised ≡ old.raised)
