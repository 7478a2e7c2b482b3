-- Rules that are judged between what several calls read.
use Rattle.std.proofs.Common.{◌≡◌, Result, Ok, Err, ap, ◌∙◌}
use Rattle.flac_bits.specs.State.{State, Cursor}
use Rattle.flac_bits.specs.Layout.{Reason, and_then, because}
use Rattle.flac_bits.specs.declared.why.Why.{Why}
use Rattle.flac_bits.proofs.Telling.{Told}

-- none of them is broken
pub told_past : {Y : Type 0} {read : Result (Unit {0} × Cursor) Reason} {answer : Result (Y × Cursor) Reason} (old new : State) (place : Cursor) (more : Unit {0} → Cursor → Result (Y × Cursor) Reason)
    → read ≡ Ok (tt, place) → Told (more tt place) answer old new → Told (and_then read more) answer old new
told_past old new place more is q = λ known same. ap (λ p. and_then p more) is ∙ q known same

-- one of them is broken
pub told_broken : {Y : Type 0} {read : Result (Unit {0} × Cursor) Reason} {e : Why} (old new : State) (more : Unit {0} → Cursor → Result (Y × Cursor) Reason)
    → read ≡ Err (because e) → Told (and_then read more) (Err (because e)) old new
told_broken old new more is = λ known same. ap (λ p. and_then p more) is
