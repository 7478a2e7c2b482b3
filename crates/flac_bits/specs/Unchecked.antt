-- Bytes of which no check is computed: the checks begin anew after them.
use Rattle.std.specs.Prelude.{◌≡◌, ℕ, Bool, List, ◌++◌, Result, Ok, Err}
use Rattle.flac_bits.specs.State.{Cursor, State, past, fresh}
use Rattle.flac_bits.specs.Layout.{Reason, bits as number, run}
use Rattle.flac_bits.specs.Lists.{list_of}
use Rattle.flac_bits.specs.Reading.{Gives}
use Rattle.flac_bits.specs.declared.why.Why.{Why}

-- these bits were read, and the checks begin anew after them
abbrev pub Passes : List Bool → Cursor → Cursor → Type 0
Passes text old new = (old.left ≡ text ++ new.left) × (new.mark ≡ fresh (past text old.mark))

-- what is read, the checks begun anew after it
abbrev pub begun_anew : {A : Type 0} → Result (A × Cursor) Reason → Result (A × Cursor) Reason
begun_anew (Ok x) = Ok (x.0, record x.1 { mark = fresh x.1.mark })
begun_anew (Err e) = Err e

-- what was read are n bytes, the checks begun anew after them
abbrev pub ReadsAnew : {X : Type 0} → ℕ → List ℕ → State → State → Result X Why → Type 0
ReadsAnew n bytes old new result = Gives (λ _. bytes) (begun_anew (run (list_of n (number 8)) old.cursor)) old new result
